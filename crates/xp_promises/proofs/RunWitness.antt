-- That runs and lines come out as they should, on words that are there: two messages of two lines each, copied as one run; a second entry that is refused,
-- and a load that fails. And a sender that fills its queue without a load of get.
use Rattle.std.proofs.Common.{◌≡◌, ℕ, zero, suc, ◌+◌, true, List, [], ◌∷◌, ◌++◌, replicate, refl, arith, Option, Some, None}
use Rattle.xp_base.specs.declared.reason.Reason.{Reason}
use Rattle.xp_base.specs.declared.reason.Reason.TheVariants.{BadNumber}
use Rattle.xp_base.specs.declared.step.CopyKind.TheVariants.{Entries}
use Rattle.xp_base.specs.Entries.{message_word, bytes_from, lines}
use Rattle.xp_protocol.specs.declared.rule.RingRule.TheVariants.{ReadGet, WriteEntryWord, AcceptMessage}
use Rattle.xp_protocol.specs.declared.rule.PullRule.TheVariants.{ReadEntry}
use Rattle.xp_protocol.specs.Sending.{Sending, new_sending, ring_can, ring_effect}
use Rattle.xp_protocol.specs.Pulling.{Pulling, SenderCounters, new_pulling, pull_effect, pull_failed, run_now}

-- lines by the limit
line_counts : (lines 0 ≡ 1) × (lines 112 ≡ 1) × (lines 113 ≡ 2) × (lines 240 ≡ 2) × (lines 241 ≡ 3) × (lines 1008 ≡ 8)
line_counts = (refl, refl, refl, refl, refl, refl)

-- the first n words of an entry, from word f on
abbrev words_from : ℕ → List ℕ → ℕ → ℕ → List ℕ
words_from k payload f zero = []
words_from k payload f (suc n) = message_word k payload f ∷ words_from k payload (f + 1) n

abbrev one : List ℕ
one = 7 ∷ 8 ∷ 9 ∷ []

abbrev other : List ℕ
other = replicate 120 5

abbrev beside : SenderCounters
beside = record { remote_get = 0; put = 0; front = 0 }

-- a side whose partner has put two messages, of at most 120 bytes
abbrev two_put : Pulling
two_put = record (new_pulling 4 120) { pulled_put = 2 }

abbrev loads : List ℕ → Pulling → Pulling
loads [] x = x
loads (w ∷ ws) x = loads ws (pull_effect beside x ReadEntry w).local

abbrev last_reason : List ℕ → Pulling → Option Reason
last_reason [] x = None
last_reason (w ∷ []) x = (pull_effect beside x ReadEntry w).reason
last_reason (w ∷ v ∷ ws) x = last_reason (v ∷ ws) (pull_effect beside x ReadEntry w).local

abbrev both_words : List ℕ
both_words = words_from 0 one 0 32 ++ words_from 1 other 0 32

run_pulled : loads both_words two_put ≡ record two_put { pulled = 2; cache = one ∷ other ∷ [] }
unfolding bytes_from
run_pulled = refl

-- its length is fixed at the first load: a message that is put meanwhile isn't in it
run_fixed : (run_now (record (loads (words_from 0 one 0 1) two_put) { pulled_put = 3 }) ≡ 2) × (run_now (record two_put { pulled_put = 3 }) ≡ 3)
run_fixed = (refl, refl)

-- it ends with the queue
run_ends : run_now (record two_put { pulled_put = 6; pulled = 3; taken = 3 }) ≡ 1
run_ends = refl

-- where the second entry is refused, nothing is pulled
abbrev wrong_words : List ℕ
wrong_words = words_from 0 one 0 32 ++ words_from 2 other 0 32

run_refused : (loads wrong_words two_put ≡ two_put) × (last_reason wrong_words two_put ≡ Some (BadNumber 1 2))
unfolding bytes_from
run_refused = (refl, refl)

-- nor where a load fails
run_failed : pull_failed Entries (loads (words_from 0 one 0 32) two_put) ≡ two_put
unfolding bytes_from
run_failed = refl

-- a sender: each message without a load, until the queue looks full by 0
abbrev sends : ℕ → Sending → Sending
sends f x = (ring_effect x (WriteEntryWord f) 0).local

abbrev all_sent : ℕ → ℕ → Sending → Sending
all_sent zero f x = x
all_sent (suc n) f x = all_sent n (f + 1) (sends f x)

abbrev begun : Sending → Sending
begun x = record x { send = Some (record { payload = one; wait = true; notify = true }) }

abbrev first_written : Sending
first_written = all_sent 32 0 (begun (new_sending 2 120))

abbrev second_written : Sending
second_written = all_sent 32 0 (begun (ring_effect first_written AcceptMessage 0).local)

abbrev full : Sending
full = begun (ring_effect second_written AcceptMessage 0).local

accepts : ring_can first_written AcceptMessage × ring_can second_written AcceptMessage × (full.put ≡ 2) × (full.remote_get ≡ 0)
accepts = ((refl, refl), (refl, refl), refl, refl)

-- then a get is loaded, and makes room
full_loads : ring_can full ReadGet × ring_can ((ring_effect full ReadGet 1).local) (WriteEntryWord 31)
full_loads = ((refl, refl), (refl, omega arith, omega arith, omega arith, refl))
