-- One direction of one channel by itself: the sending side, the receiving side and the words between them, and what each step keeps.
use Rattle.std.proofs.Common.{◌≡◌, ℕ, zero, suc, ◌+◌, ◌-◌, ◌*◌, ◌%◌, ◌^◌, ◌<◌, ◌≤◌, Bool, true, false, cond, eqb, ltb, List, drop, [], ◌∷◌, ◌++◌, length, get_or, set, refl, ap, sym, ◌∙◌, subst, arith, Option, Some, None, inl, inr, ◌⊎◌, ⊎_elim, length-append, bit_or}
use Rattle.std.specs.Prelude.{slice_index}
use Rattle.std.specs.Int.{bit_at}
use Rattle.std.proofs.lemmas.Bool.{cases_lt, cases_eq, eq-eqb, ne_eqb}
use Rattle.std.proofs.lemmas.Bool.Decides.{nat_tests}
use Rattle.std.proofs.lemmas.List.{get_or_append_left, get_or_at, get_or-drop, append_assoc, append-nil, length-set}
use Rattle.std.proofs.lemmas.Nat.Bits.{bit_at-zero, bit_at_or, bit_at-pow_other, bit_at-lt, bit_at_ones}
use Rattle.xp_base.specs.Entries.{message_word, body_of, lines, entry_words}
use Rattle.xp_base.proofs.BodyLemmas.{body_of-message}
use Rattle.xp_script.specs.Lawful.{AreBytes}
use Rattle.xp_protocol.specs.Sending.{Sending, Send, payload_of, is_bad_get, with_remote_get, send_over}
use Rattle.xp_protocol.specs.Pulling.{Pulling, SenderCounters, is_bad_put, run_now, entry_fault, run_fault, run_bodies, entry_pulled}
use Rattle.xp_protocol.specs.Releasing.{Releasing, fronted, message_held, message_released}
use Rattle.xp_promises.proofs.Ring.{apart, places_apart, below_times, within_times, mod_next, mod_less}

-- the sending side, what its record has as accepted, its put word and its entries
pub record Out : Type 0 where
  pub send : Sending
  pub accepted : List (List ℕ)
  pub put : ℕ
  pub entry : ℕ → ℕ  -- the words of its queue

-- the receiving side, what it released and the last get that it stored, what its record has as taken and acknowledged, and its get word
pub record In : Type 0 where
  pub pull : Pulling
  pub ack : Releasing
  pub stored : ℕ
  pub taken : List (List ℕ)
  pub acked : ℕ
  pub get : ℕ

abbrev pub body_at : List (List ℕ) → ℕ → List ℕ
body_at bs k = get_or bs k []

-- the counters, one below the next
pub record Chain (o : Out) (i : In) : Type 0 where
  pub some_entries : 0 < o.send.entries
  pub few_entries : o.send.entries ≤ 8
  pub same_entries : i.pull.entries ≡ o.send.entries
  pub same_limit : i.pull.limit ≡ o.send.limit
  pub fits : o.send.entries * lines o.send.limit ≤ 8
  pub put_word : o.put ≡ o.send.put
  pub put_count : o.send.put ≡ length o.accepted
  pub get_word : i.get ≡ i.stored
  pub acked_word : i.acked ≡ i.stored
  pub known_stored : o.send.remote_get ≤ i.stored
  pub stored_front : i.stored ≤ i.ack.front
  pub front_taken : i.ack.front + length i.ack.released_from_front ≡ i.pull.taken
  pub taken_count : i.pull.taken ≡ length i.taken
  pub cached : i.pull.taken + length i.pull.cache ≡ i.pull.pulled
  pub pulled_seen : i.pull.pulled ≤ i.pull.pulled_put
  pub seen_put : i.pull.pulled_put ≤ o.send.put
  pub room : o.send.put ≤ o.send.remote_get + o.send.entries

-- a payload of a message that may be sent
pub record Sized (limit : ℕ) (payload : List ℕ) : Type 0 where
  pub short : length payload ≤ limit
  pub bytes : AreBytes payload

-- the entries of the messages that aren't acknowledged hold them
pub record Held (w n stored : ℕ) (accepted : List (List ℕ)) (entry : ℕ → ℕ) : Type 0 where
  pub at : (k f : ℕ) → stored ≤ k → k < length accepted → f < w → entry (w * (k % n) + f) ≡ message_word k (body_at accepted k) f

-- the words that were stored so far of the next message
pub record Written (w n known put mask : ℕ) (payload : List ℕ) (entry : ℕ → ℕ) : Type 0 where
  pub room : (f : ℕ) → bit_at mask f ≡ 1 → put < known + n
  pub at : (f : ℕ) → bit_at mask f ≡ 1 → entry (w * (put % n) + f) ≡ message_word put payload f

pub record Bodies (limit pulled : ℕ) (next : List ℕ) (sent received : List (List ℕ)) : Type 0 where
  pub payload : Sized limit next
  pub accepted : (k : ℕ) → Sized limit (body_at sent k)
  pub same : (k : ℕ) → k < pulled → body_at received k ≡ body_at sent k

-- the words that were copied so far of a run of entries, which ends with what was seen, and with the queue
pub record Copied (w n run : ℕ) (copied : List ℕ) (next seen : ℕ) (accepted : List (List ℕ)) : Type 0 where
  pub at : (j f : ℕ) → f < w → w * j + f < length copied → slice_index copied (w * j + f) ≡ message_word (next + j) (body_at accepted (next + j)) f
  pub within : 0 < length copied → length copied < w * run
  pub below : 0 < length copied → next + run ≤ seen
  pub round : 0 < length copied → next % n + run ≤ n

pub record Kept (o : Out) (i : In) : Type 0 where
  pub chain : Chain o i
  pub held : Held (entry_words o.send.limit) o.send.entries i.stored o.accepted o.entry
  pub written : Written (entry_words o.send.limit) o.send.entries o.send.remote_get o.send.put o.send.written_words (payload_of o.send.send) o.entry
  pub bodies : Bodies o.send.limit i.pull.pulled (payload_of o.send.send) o.accepted (i.taken ++ i.pull.cache)
  pub copied : Copied (entry_words i.pull.limit) i.pull.entries i.pull.run i.pull.copied i.pull.pulled i.pull.pulled_put o.accepted

-- an entry has words, and room for a payload
pub some_words : (limit : ℕ) → 0 < entry_words limit
some_words limit = omega arith

room_for : (limit : ℕ) → 16 + limit ≤ 8 * entry_words limit
room_for limit = omega arith

no_bytes : AreBytes []
no_bytes i = omega arith

pub sized_none : (limit : ℕ) → Sized limit []
sized_none limit = record { short = omega arith; bytes = no_bytes }

pub none_written : (w n known put : ℕ) (payload : List ℕ) (entry : ℕ → ℕ) → Written w n known put 0 payload entry
none_written w n known put payload entry = record { room = λ f e. absurd (omega (arith, bit_at-zero f, e)); at = λ f e. absurd (omega (arith, bit_at-zero f, e)) }

-- the sending side loads get
pub get_good : (o : Out) (i : In) → Kept o i → is_bad_get o.send i.get ≡ false
get_good o i h = let low : o.send.remote_get ≤ i.get = omega (arith, h.chain) in let high : i.get ≤ o.send.put = omega (arith, h.chain) in grind (arith, nat_tests)

pub get_heard : (o : Out) (i : In) → Kept o i → Kept (record o { send = with_remote_get i.get o.send }) i
get_heard o i h = record {
  chain = omega (arith, h.chain);
  held = h.held;
  bodies = h.bodies;
  copied = h.copied;
  written = record { at = h.written.at; room = λ f e. omega (arith, h.written.room f e, h.chain) };
}

pub send_ended : (o : Out) (i : In) → Kept o i → Kept (record o { send = send_over o.send }) i
send_ended o i h = record {
  chain = omega (arith, h.chain);
  held = h.held;
  bodies = record { payload = sized_none o.send.limit; accepted = h.bodies.accepted; same = h.bodies.same };
  copied = h.copied;
  written = none_written _ _ _ _ _ _;
}

-- a send is begun
pub send_started : (o : Out) (i : In) (x : Send) → Sized o.send.limit x.payload → Kept o i → Kept (record o { send = record o.send { send = Some x; written_words = 0 } }) i
send_started o i x z h = record {
  chain = omega (arith, h.chain);
  held = h.held;
  bodies = record { payload = z; accepted = h.bodies.accepted; same = h.bodies.same };
  copied = h.copied;
  written = none_written _ _ _ _ _ _;
}

-- a word of the next entry is stored
abbrev pub write_entry : (ℕ → ℕ) → ℕ → ℕ → ℕ → ℕ
write_entry e k v = λ k'. cond (eqb k k') v (e k')

bit_added : (m f g : ℕ) → bit_at (bit_or m (2 ^ f)) g ≡ 1 → (g ≡ f → ⊥) → bit_at m g ≡ 1
bit_added m f g e d = omega (arith, bit_at_or m (2 ^ f) g, bit_at-pow_other f g d, e, bit_at-lt m g)

written_other : (e : ℕ → ℕ) (k v k' : ℕ) → (k ≡ k' → ⊥) → write_entry e k v k' ≡ e k'
written_other e k v k' d = rw (ne_eqb k k' d) refl

written_here : (e : ℕ → ℕ) (k v : ℕ) → write_entry e k v k ≡ v
written_here e k v = rw (eq-eqb k k refl) refl

-- a store in the slot of the next message leaves the slots of those that aren't acknowledged
store_held : (w n stored put f v : ℕ) (accepted : List (List ℕ)) (entry : ℕ → ℕ) → f < w → length accepted ≤ put → put < stored + n → Held w n stored accepted entry → Held w n stored accepted (write_entry entry (w * (put % n) + f) v)
store_held w n stored put f v accepted entry low count room h = record {
  at = λ k g le lt l. written_other entry (w * (put % n) + f) v (w * (k % n) + g) (places_apart w (put % n) (k % n) f g low l (λ e. apart n k put (omega (arith, lt, count)) (omega (arith, room, le)) (sym e))) ∙ h.at k g le lt l;
}

store_written : (w n known put mask f : ℕ) (payload : List ℕ) (entry : ℕ → ℕ) → put < known + n → Written w n known put mask payload entry → Written w n known put (bit_or mask (2 ^ f)) payload (write_entry entry (w * (put % n) + f) (message_word put payload f))
store_written w n known put mask f payload entry room h = record { room = λ g e. room; at = λ g e. by g (cases_eq g f) e } where
  same_add : (a x y : ℕ) → a + x ≡ a + y → x ≡ y
  same_add a x y e = omega (arith, e)

  v : ℕ
  v = message_word put payload f

  by : (g : ℕ) → (g ≡ f) ⊎ (g ≡ f → ⊥) → bit_at (bit_or mask (2 ^ f)) g ≡ 1 → write_entry entry (w * (put % n) + f) v (w * (put % n) + g) ≡ message_word put payload g
  by g (inl e) b = let P : ℕ → Type 0 = λ x. write_entry entry (w * (put % n) + f) v (w * (put % n) + x) ≡ message_word put payload x in subst P (sym e) (written_here entry (w * (put % n) + f) v)
  by g (inr d) b = written_other entry (w * (put % n) + f) v (w * (put % n) + g) (λ e. d (sym (same_add (w * (put % n)) f g e))) ∙ h.at g (bit_added mask f g b d)

module _ (o : Out) (i : In) (f : ℕ) (low : f < entry_words o.send.limit) (room : o.send.put < o.send.remote_get + o.send.entries) (h : Kept o i) where
  abbrev filled : ℕ → ℕ
  filled = write_entry o.entry (entry_words o.send.limit * (o.send.put % o.send.entries) + f) (message_word o.send.put (payload_of o.send.send) f)

  pub word_written : Kept (record o { send = record o.send { written_words = bit_or o.send.written_words (2 ^ f) }; entry = filled }) i
  word_written = record {
    chain = omega (arith, h.chain);
    held = store_held _ _ _ o.send.put f _ o.accepted o.entry low (omega (arith, h.chain)) (omega (arith, h.chain, room)) h.held;
    bodies = h.bodies;
    copied = h.copied;
    written = store_written _ _ _ _ _ f _ o.entry room h.written;
  }

-- put is stored
old_body : (bs : List (List ℕ)) (b : List ℕ) (k : ℕ) → k < length bs → body_at (bs ++ b ∷ []) k ≡ body_at bs k
old_body bs b k lt = get_or_append_left bs (b ∷ []) _ k lt

new_body : (bs : List (List ℕ)) (b : List ℕ) (k : ℕ) → k ≡ length bs → body_at (bs ++ b ∷ []) k ≡ b
new_body bs b k e = get_or_at bs b [] _ k (sym e)

-- what holds at each body, and at one more
each_more : (P : ℕ → List ℕ → Type 0) (bs : List (List ℕ)) (b : List ℕ) → ((k : ℕ) → k < length bs → P k (body_at bs k)) → P (length bs) b → (k : ℕ) → k < length (bs ++ b ∷ []) → P k (body_at (bs ++ b ∷ []) k)
each_more P bs b each here k lt =
    ⊎_elim
    (λ (l : k < length bs). rw (old_body bs b k l) (each k l))
    (λ (l : length bs ≤ k).
    let e : k ≡ length bs = omega (arith, length-append bs (b ∷ []), lt) in
    rw (new_body bs b k e) (subst (λ n. P n b) (sym e) here))
    (cases_lt k (length bs))

-- the same at every number: past the end stands an empty body
each_always : (P : List ℕ → Type 0) (bs : List (List ℕ)) (b : List ℕ) → ((k : ℕ) → P (body_at bs k)) → P b → (k : ℕ) → P (body_at (bs ++ b ∷ []) k)
each_always P [] b each here zero = here
each_always P [] b each here (suc k) = each (suc k)
each_always P (x ∷ bs) b each here zero = each zero
each_always P (x ∷ bs) b each here (suc k) = each_always P bs b (λ j. each (suc j)) here k

-- a message more is accepted
more_held : (w n stored put mask : ℕ) (accepted : List (List ℕ)) (payload : List ℕ) (entry : ℕ → ℕ) → ((f : ℕ) → f < w → bit_at mask f ≡ 1) → put ≡ length accepted → (known : ℕ) → Written w n known put mask payload entry → Held w n stored accepted entry → Held w n stored (accepted ++ payload ∷ []) entry
more_held w n stored put mask accepted payload entry all count known a h = record {
  at = λ k f le lt l. each_more (λ k b. stored ≤ k → entry (w * (k % n) + f) ≡ message_word k b f) accepted payload (λ k lt le. h.at k f le lt l) (λ le. subst (λ (m : ℕ). entry (w * (m % n) + f) ≡ message_word m payload f) count (a.at f (all f l))) k lt le;
}

more_copied : (w n run : ℕ) (copied : List ℕ) (next seen : ℕ) (accepted : List (List ℕ)) (payload : List ℕ) → seen ≤ length accepted → Copied w n run copied next seen accepted → Copied w n run copied next seen (accepted ++ payload ∷ [])
more_copied w n run copied next seen accepted payload le h = record {
  at = λ j f low lt.
      let some : 0 < length copied = omega (arith, lt) in
      let q : j < run = below_times w j f run (omega (arith, lt, h.within some)) in
      h.at j f low lt ∙ ap (λ (b : List ℕ). message_word (next + j) b f) (sym (old_body accepted payload (next + j) (omega (arith, q, h.below some, le))));
  within = h.within;
  below = h.below;
  round = h.round;
}

module _ (o : Out) (i : In) (all : o.send.written_words ≡ 2 ^ entry_words o.send.limit - 1) (h : Kept o i) where
  abbrev payload_now : List ℕ
  payload_now = payload_of o.send.send

  abbrev more : List (List ℕ)
  more = o.accepted ++ payload_now ∷ []

  bit_all : (f : ℕ) → f < entry_words o.send.limit → bit_at o.send.written_words f ≡ 1
  bit_all f l = ap (λ (m : ℕ). bit_at m f) all ∙ bit_at_ones (entry_words o.send.limit) f l

  pub message_accepted : Kept (record o { send = record (send_over o.send) { put = o.send.put + 1 }; accepted = more; put = o.send.put + 1 }) i
  message_accepted = record {
    chain = omega (arith, h.chain, length-append o.accepted (payload_now ∷ []), h.written.room 0 (bit_all 0 (some_words o.send.limit)));
    held = more_held _ _ _ _ _ o.accepted payload_now o.entry bit_all h.chain.put_count _ h.written h.held;
    written = none_written _ _ _ _ _ _;
    bodies = record {
      payload = sized_none o.send.limit;
      accepted = each_always (Sized o.send.limit) o.accepted payload_now h.bodies.accepted h.bodies.payload;
      same = λ k lt. h.bodies.same k lt ∙ sym (old_body o.accepted payload_now k (omega (arith, h.chain, lt)));
    };
    copied = more_copied _ _ _ _ _ _ o.accepted payload_now (omega (arith, h.chain)) h.copied;
  }

-- what the own sides of an end tell the receiving one
abbrev pub beside : Out → In → SenderCounters
beside own i = record { remote_get = own.send.remote_get; put = own.send.put; front = i.ack.front }

-- the receiving side loads put
pub put_good : (own o : Out) (i : In) → Kept o i → is_bad_put (beside own i) i.pull o.put ≡ false
put_good own o i h = let low : i.pull.pulled_put ≤ o.put = omega (arith, h.chain) in let high : o.put ≤ i.ack.front + i.pull.entries = omega (arith, h.chain) in grind (arith, nat_tests)

pub put_heard : (o : Out) (i : In) (shown : Option ℕ) → Kept o i → Kept o (record i { pull = record i.pull { counters = None; pulled_put = o.put; empty = shown } })
put_heard o i shown h = record {
  chain = omega (arith, h.chain);
  held = h.held;
  written = h.written;
  bodies = h.bodies;
  copied = record { at = h.copied.at; within = h.copied.within; below = λ e. omega (arith, h.copied.below e, h.chain); round = h.copied.round };
}

pub counters_set : (o : Out) (i : In) (x : Option ℕ) (known : ℕ) (owed : Bool) → Kept o i → Kept o (record i { pull = record i.pull { counters = x; known = known; owed = owed } })
counters_set o i x known owed h = record { chain = omega (arith, h.chain); held = h.held; written = h.written; bodies = h.bodies; copied = h.copied }

-- a take is begun, or answered with no message
pub take_set : (o : Out) (i : In) (take : Option Bool) (empty : Option ℕ) → Kept o i → Kept o (record i { pull = record i.pull { take = take; empty = empty } })
take_set o i take empty h = record { chain = omega (arith, h.chain); held = h.held; written = h.written; bodies = h.bodies; copied = h.copied }

none_copied : (w n run next seen : ℕ) (copied : List ℕ) (accepted : List (List ℕ)) → length copied ≡ 0 → Copied w n run copied next seen accepted
none_copied w n run next seen copied accepted e = record { at = λ j f low lt. absurd (omega (arith, lt, e)); within = λ lt. absurd (omega (arith, lt, e)); below = λ lt. absurd (omega (arith, lt, e)); round = λ lt. absurd (omega (arith, lt, e)) }

pub copy_ended : (o : Out) (i : In) → Kept o i → Kept o (record i { pull = record i.pull { copied = []; run = 0 } })
copy_ended o i h = record { chain = omega (arith, h.chain); held = h.held; written = h.written; bodies = h.bodies; copied = none_copied _ _ _ _ _ _ _ refl }

-- get is stored
pub get_stored : (o : Out) (i : In) → Kept o i → Kept o (record i { stored = i.ack.front; get = i.ack.front; acked = i.ack.front })
get_stored o i h = record { chain = omega (arith, h.chain); written = h.written; bodies = h.bodies; copied = h.copied; held = record { at = λ k f le lt l. h.held.at k f (omega (arith, h.chain, le)) lt l } }

-- a message is released: the front rises past those that were released, and all that were taken are counted as before
fronted_counts : (front : ℕ) (later : List Bool) → (fronted front later).front + length (fronted front later).released_from_front ≡ front + length later
fronted_counts front [] = refl
fronted_counts front (false ∷ more) = refl
fronted_counts front (true ∷ more) = omega (arith, fronted_counts (front + 1) more)

fronted_rises : (front : ℕ) (later : List Bool) → front ≤ (fronted front later).front
fronted_rises front [] = omega arith
fronted_rises front (false ∷ more) = omega arith
fronted_rises front (true ∷ more) = omega (arith, fronted_rises (front + 1) more)

pub one_released : (o : Out) (i : In) (number : ℕ) → Kept o i → Kept o (record i { ack = message_released number i.ack })
one_released o i number h =
    let later = set i.ack.released_from_front (number - i.ack.front) true in
    record { chain = omega (arith, h.chain, fronted_counts i.ack.front later, fronted_rises i.ack.front later, length-set i.ack.released_from_front (number - i.ack.front) true); held = h.held; written = h.written; bodies = h.bodies; copied = h.copied }

-- a message is taken
pub one_taken : (o : Out) (i : In) (b : List ℕ) (bs : List (List ℕ)) → i.pull.cache ≡ b ∷ bs → Kept o i → Kept o (record i { pull = record i.pull { taken = i.pull.taken + 1; cache = bs; take = None }; ack = message_held i.ack; taken = i.taken ++ b ∷ [] })
one_taken o i b bs e h = record {
  chain = omega (arith, h.chain, length-append i.taken (b ∷ []), length-append i.ack.released_from_front (false ∷ []), ap length e);
  held = h.held;
  written = h.written;
  copied = h.copied;
  bodies = record {
    payload = h.bodies.payload;
    accepted = h.bodies.accepted;
    same = λ k lt. ap (λ (xs : List (List ℕ)). body_at xs k) (append_assoc i.taken (b ∷ []) bs ∙ ap (λ (xs : List (List ℕ)). i.taken ++ xs) (sym e)) ∙ h.bodies.same k lt;
  };
}

-- the words of a message have no fault
fault_none : (w limit number : ℕ) (words payload : List ℕ) → ((f : ℕ) → f < w → slice_index words f ≡ message_word number payload f) → 1 < w → length payload ≤ limit → entry_fault limit number words ≡ None
fault_none w limit number words payload h two l =
    let first : slice_index words 0 ≡ 65536 + length payload = h 0 (omega (arith, two)) in
    let second : slice_index words 1 ≡ number = h 1 two in
    grind (arith, nat_tests)

-- the words of b entries are those of the messages from a number on
abbrev Are : ℕ → ℕ → ℕ → List ℕ → List (List ℕ) → Type 0
Are w number b words accepted = (j f : ℕ) → j < b → f < w → slice_index words (w * j + f) ≡ message_word (number + j) (body_at accepted (number + j)) f

are_first : (w number b : ℕ) (words : List ℕ) (accepted : List (List ℕ)) → Are w number (suc b) words accepted → (f : ℕ) → f < w → slice_index words f ≡ message_word number (body_at accepted number) f
are_first w number b words accepted h f l =
    let e : w * 0 + f ≡ f = omega arith in
    let d : number + 0 ≡ number = omega arith in
    ap (slice_index words) (sym e) ∙ h 0 f (omega arith) l ∙ ap (λ (n : ℕ). message_word n (body_at accepted n) f) d

are_rest : (w number b : ℕ) (words : List ℕ) (accepted : List (List ℕ)) → Are w number (suc b) words accepted → Are w (number + 1) b (drop w words) accepted
are_rest w number b words accepted h j f low l =
    let e : w + (w * j + f) ≡ w * suc j + f = omega arith in
    let d : number + suc j ≡ number + 1 + j = omega arith in
    get_or-drop w words (w * j + f) 0 ∙ ap (slice_index words) e ∙ h (suc j) f (omega (arith, low)) l ∙ ap (λ (n : ℕ). message_word n (body_at accepted n) f) d

module _ (limit : ℕ) (small : 16 + limit ≤ 8 * entry_words limit) (accepted : List (List ℕ)) (sized : (k : ℕ) → Sized limit (body_at accepted k)) where
  run_good : (number b : ℕ) (words : List ℕ) → Are (entry_words limit) number b words accepted → run_fault limit number b words ≡ None
  run_good number zero words h = refl
  run_good number (suc b) words h =
      rw (fault_none (entry_words limit) limit number words (body_at accepted number) (are_first (entry_words limit) number b words accepted h) (omega (arith, small)) (sized number).short)
      (run_good (number + 1) b (drop (entry_words limit) words) (are_rest (entry_words limit) number b words accepted h))

  first_is : (number b : ℕ) (words : List ℕ) → Are (entry_words limit) number (suc b) words accepted → body_of words ≡ body_at accepted number
  first_is number b words h = body_of-message words (body_at accepted number) number (entry_words limit) (are_first (entry_words limit) number b words accepted h) (omega (arith, small, (sized number).short)) (sized number).bytes

  received_same : (b : ℕ) (words : List ℕ) (xs : List (List ℕ)) → Are (entry_words limit) (length xs) b words accepted → ((k : ℕ) → k < length xs → body_at xs k ≡ body_at accepted k) → (k : ℕ) → k < length xs + b → body_at (xs ++ run_bodies limit b words) k ≡ body_at accepted k
  received_same zero words xs h each k lt = ap (λ (ys : List (List ℕ)). body_at ys k) (append-nil xs) ∙ each k (omega (arith, lt))
  received_same (suc b) words xs h each k lt =
      let x = body_of words in
      let n : length (xs ++ x ∷ []) ≡ length xs + 1 = length-append xs (x ∷ []) in
      let rest : Are (entry_words limit) (length (xs ++ x ∷ [])) b (drop (entry_words limit) words) accepted = subst (λ (m : ℕ). Are (entry_words limit) m b (drop (entry_words limit) words) accepted) (sym n) (are_rest (entry_words limit) (length xs) b words accepted h) in
      let more = each_more (λ j y. y ≡ body_at accepted j) xs x each (first_is (length xs) b words h) in
      ap (λ (ys : List (List ℕ)). body_at ys k) (sym (append_assoc xs (x ∷ []) (run_bodies limit b (drop (entry_words limit) words)))) ∙ received_same b (drop (entry_words limit) words) (xs ++ x ∷ []) rest more k (omega (arith, lt, n))

length-bodies : (limit b : ℕ) (words : List ℕ) → length (run_bodies limit b words) ≡ b
length-bodies limit zero words = refl
length-bodies limit (suc b) words = ap suc (length-bodies limit b (drop (entry_words limit) words))

-- a run ends with what was put, and with the queue
record Fits (n next seen run : ℕ) : Type 0 where
  some : 0 < run
  below : next + run ≤ seen
  round : next % n + run ≤ n

there_fits : (n next seen : ℕ) → 0 < n → next < seen → (b : Bool) → ltb (seen - next) (n - next % n) ≡ b → Fits n next seen (cond b (seen - next) (n - next % n))
there_fits n next seen some lt true e = let k : seen - next < n - next % n = grind (arith, nat_tests) in record { some = omega (arith, lt); below = omega (arith, lt); round = omega (arith, k) }
there_fits n next seen some lt false e = let k : n - next % n ≤ seen - next = grind (arith, nat_tests) in let m = mod_less next n some in record { some = omega (arith, m); below = omega (arith, lt, k); round = omega (arith, m) }

now_fits : (w n run next seen : ℕ) (copied : List ℕ) (accepted : List (List ℕ)) → 0 < n → next < seen → Copied w n run copied next seen accepted → (length copied ≡ 0) ⊎ (length copied ≡ 0 → ⊥) → Fits n next seen (cond (eqb (length copied) 0) (cond (ltb (seen - next) (n - next % n)) (seen - next) (n - next % n)) run)
now_fits w n run next seen copied accepted some lt h (inl e) = rw (eq-eqb (length copied) 0 e) (there_fits n next seen some lt (ltb (seen - next) (n - next % n)) refl)
now_fits w n run next seen copied accepted some lt h (inr d) =
    let l : 0 < length copied = omega (arith, d) in
    rw (ne_eqb (length copied) 0 d) (record { some = below_times w 0 (length copied) run (omega (arith, h.within l)); below = h.below l; round = h.round l })

-- a word of a run is loaded
next_copied : (w n run : ℕ) (copied : List ℕ) (next seen stored : ℕ) (accepted : List (List ℕ)) (entry : ℕ → ℕ) → stored ≤ next → seen ≤ length accepted → Fits n next seen run → length copied < w * run → Held w n stored accepted entry → Copied w n run copied next seen accepted →
    (j f : ℕ) → f < w → w * j + f < length (copied ++ entry (w * (next % n) + length copied) ∷ []) → slice_index (copied ++ entry (w * (next % n) + length copied) ∷ []) (w * j + f) ≡ message_word (next + j) (body_at accepted (next + j)) f
next_copied w n run copied next seen stored accepted entry le seen_le fits room held h j f low lt = by (cases_lt (w * j + f) (length copied)) where
  word : ℕ
  word = entry (w * (next % n) + length copied)

  by : (w * j + f < length copied) ⊎ (length copied ≤ w * j + f) → slice_index (copied ++ word ∷ []) (w * j + f) ≡ message_word (next + j) (body_at accepted (next + j)) f
  by (inl l) = get_or_append_left copied (word ∷ []) 0 (w * j + f) l ∙ h.at j f low l
  by (inr l) =
      let e : w * j + f ≡ length copied = omega (arith, length-append copied (word ∷ []), lt, l) in
      let q : j < run = below_times w j f run (omega (arith, e, room)) in
      let m : (next + j) % n ≡ next % n + j = mod_next next n j (omega (arith, fits.round, q)) in
      let p : w * (next % n) + length copied ≡ w * (next % n + j) + f = omega (arith, e) in
      get_or_at copied word [] 0 (w * j + f) (sym e) ∙ ap entry (p ∙ ap (λ (k : ℕ). w * k + f) (sym m)) ∙ held.at (next + j) f (omega (arith, le)) (omega (arith, q, fits.below, seen_le)) low

module _ (o : Out) (i : In) (below : i.pull.pulled < i.pull.pulled_put) (room : length i.pull.copied < entry_words i.pull.limit * run_now i.pull) (h : Kept o i) where
  abbrev each_words : ℕ
  each_words = entry_words i.pull.limit

  abbrev word_read : ℕ
  word_read = o.entry (each_words * (i.pull.pulled % i.pull.entries) + length i.pull.copied)

  abbrev words_read : List ℕ
  words_read = i.pull.copied ++ word_read ∷ []

  abbrev run : ℕ
  run = run_now i.pull

  held_here : Held each_words i.pull.entries i.stored o.accepted o.entry
  held_here = subst (λ (l : ℕ). Held (entry_words l) i.pull.entries i.stored o.accepted o.entry) (sym h.chain.same_limit) (subst (λ (n : ℕ). Held (entry_words o.send.limit) n i.stored o.accepted o.entry) (sym h.chain.same_entries) h.held)

  some_here : 0 < i.pull.entries
  some_here = omega (arith, h.chain)

  small_here : 16 + i.pull.limit ≤ 8 * each_words
  small_here = room_for i.pull.limit

  sized_here : (k : ℕ) → Sized i.pull.limit (body_at o.accepted k)
  sized_here k = subst (λ (l : ℕ). Sized l (body_at o.accepted k)) (sym h.chain.same_limit) (h.bodies.accepted k)

  fits : Fits i.pull.entries i.pull.pulled i.pull.pulled_put run
  fits = now_fits each_words i.pull.entries i.pull.run i.pull.pulled i.pull.pulled_put i.pull.copied o.accepted some_here below h.copied (cases_eq (length i.pull.copied) 0)

  words_are : (j f : ℕ) → f < each_words → each_words * j + f < length words_read → slice_index words_read (each_words * j + f) ≡ message_word (i.pull.pulled + j) (body_at o.accepted (i.pull.pulled + j)) f
  words_are = next_copied each_words i.pull.entries run i.pull.copied i.pull.pulled i.pull.pulled_put i.stored o.accepted o.entry (omega (arith, h.chain)) (omega (arith, h.chain)) fits room held_here
      (record { at = h.copied.at; within = λ l. room; below = λ l. fits.below; round = λ l. fits.round })

  module _ (e : length words_read ≡ each_words * run) where
    whole_are : Are each_words i.pull.pulled run words_read o.accepted
    whole_are j f q low = words_are j f low (rw e (within_times each_words j f run q low))

    pub run_is_good : run_fault i.pull.limit i.pull.pulled run words_read ≡ None
    run_is_good = run_good i.pull.limit small_here o.accepted sized_here i.pull.pulled run words_read whole_are

    received : (k : ℕ) → k < i.pull.pulled + run → body_at (i.taken ++ (i.pull.cache ++ run_bodies i.pull.limit run words_read)) k ≡ body_at o.accepted k
    received k lt =
        let n : length (i.taken ++ i.pull.cache) ≡ i.pull.pulled = omega (arith, length-append i.taken i.pull.cache, h.chain) in
        let a : Are each_words (length (i.taken ++ i.pull.cache)) run words_read o.accepted = subst (λ (m : ℕ). Are each_words m run words_read o.accepted) (sym n) whole_are in
        ap (λ (xs : List (List ℕ)). body_at xs k) (sym (append_assoc i.taken i.pull.cache (run_bodies i.pull.limit run words_read))) ∙ received_same i.pull.limit small_here o.accepted sized_here run words_read (i.taken ++ i.pull.cache) a (λ k l. h.bodies.same k (omega (arith, n, l))) k (omega (arith, n, lt))

    whole : Kept o (record i { pull = record i.pull { copied = []; run = 0; pulled = i.pull.pulled + run; cache = i.pull.cache ++ run_bodies i.pull.limit run words_read } })
    whole =
        let f = fits.below in
        record {
          chain = omega (arith, h.chain, f, length-append i.pull.cache (run_bodies i.pull.limit run words_read), length-bodies i.pull.limit run words_read);
          held = h.held;
          written = h.written;
          bodies = record { payload = h.bodies.payload; accepted = h.bodies.accepted; same = received };
          copied = none_copied _ _ _ _ _ _ _ refl;
        }

  part : (length words_read ≡ each_words * run → ⊥) → Kept o (record i { pull = record i.pull { copied = words_read; run = run } })
  part d = record {
    chain = omega (arith, h.chain);
    held = h.held;
    written = h.written;
    bodies = h.bodies;
    copied = record { at = words_are; within = λ l. omega (arith, length-append i.pull.copied (word_read ∷ []), d, room); below = λ l. fits.below; round = λ l. fits.round };
  }

  pub entry_read : Kept o (record i { pull = (entry_pulled words_read i.pull).local })
  entry_read = by (cases_eq (length words_read) (each_words * run))
    where
      by : (length words_read ≡ each_words * run) ⊎ (length words_read ≡ each_words * run → ⊥) → Kept o (record i { pull = (entry_pulled words_read i.pull).local })
      by (inl e) = rw (eq-eqb (length words_read) (each_words * run) e, run_is_good e) (whole e)
      by (inr d) = rw (ne_eqb (length words_read) (each_words * run) d) (part d)

-- what was taken is what was accepted, as far as it was taken
prefix_of : (xs ys : List (List ℕ)) → length xs ≤ length ys → ((k : ℕ) → k < length xs → body_at xs k ≡ body_at ys k) → (rest : List (List ℕ)) × (ys ≡ xs ++ rest)
prefix_of [] ys l h = (ys, refl)
prefix_of (x ∷ xs) [] l h = absurd (omega arith)
prefix_of (x ∷ xs) (y ∷ ys) l h =
    let e : x ≡ y = h 0 (omega arith) in
    let r = prefix_of xs ys (omega (arith, l)) (λ k lt. h (suc k) (omega (arith, lt))) in
    (r.0, λ j. sym e j ∷ r.1 j)

pub taken_prefix : (o : Out) (i : In) → Kept o i → (rest : List (List ℕ)) × (o.accepted ≡ i.taken ++ rest)
taken_prefix o i h =
    prefix_of i.taken o.accepted (omega (arith, h.chain)) (λ k lt. sym (old_taken k lt) ∙ h.bodies.same k (omega (arith, h.chain, lt)))
  where
    old_taken : (k : ℕ) → k < length i.taken → body_at (i.taken ++ i.pull.cache) k ≡ body_at i.taken k
    old_taken k lt = get_or_append_left i.taken i.pull.cache _ k lt

-- sides at which nothing was sent, copied or taken yet, for entries of a size
pub record NewOut (n limit : ℕ) (o : Out) : Type 0 where
  pub entries : o.send.entries ≡ n
  pub size : o.send.limit ≡ limit
  pub word : o.put ≡ 0
  pub put : o.send.put ≡ 0
  pub known : o.send.remote_get ≡ 0
  pub accepted : o.accepted ≡ []
  pub next : payload_of o.send.send ≡ []
  pub stored : o.send.written_words ≡ 0

pub record NewIn (n limit : ℕ) (i : In) : Type 0 where
  pub entries : i.pull.entries ≡ n
  pub size : i.pull.limit ≡ limit
  pub word : i.get ≡ 0
  pub acked : i.acked ≡ 0
  pub stored : i.stored ≡ 0
  pub front : i.ack.front ≡ 0
  pub later : i.ack.released_from_front ≡ []
  pub count : i.pull.taken ≡ 0
  pub taken : i.taken ≡ []
  pub cache : i.pull.cache ≡ []
  pub pulled : i.pull.pulled ≡ 0
  pub seen : i.pull.pulled_put ≡ 0
  pub copied : i.pull.copied ≡ []

pub new_kept : (n limit : ℕ) (o : Out) (i : In) → 0 < n → n ≤ 8 → n * lines limit ≤ 8 → NewOut n limit o → NewIn n limit i → Kept o i
new_kept n limit o i some few fits a b = record {
  chain = omega (arith, fits_out, a, b, ap length a.accepted, ap length b.taken, ap length b.cache, ap length b.later);
  held = record { at = λ k f le lt l. absurd (omega (arith, ap length a.accepted, lt)) };
  written = subst (λ (m : ℕ). Written (entry_words o.send.limit) o.send.entries o.send.remote_get o.send.put m (payload_of o.send.send) o.entry) (sym a.stored) (none_written _ _ _ _ _ _);
  bodies = record {
    payload = subst (λ (p : List ℕ). Sized o.send.limit p) (sym a.next) (sized_none o.send.limit);
    accepted = λ k. subst (λ (bs : List (List ℕ)). Sized o.send.limit (body_at bs k)) (sym a.accepted) (sized_none o.send.limit);
    same = λ k lt. absurd (omega (arith, b.pulled, lt));
  };
  copied = none_copied _ _ _ _ _ _ _ (ap length b.copied);
}
  where
    fits_out : o.send.entries * lines o.send.limit ≤ 8
    fits_out = subst (λ (e : ℕ). e * lines o.send.limit ≤ 8) (sym a.entries) (subst (λ (l : ℕ). n * lines l ≤ 8) (sym a.size) fits)
