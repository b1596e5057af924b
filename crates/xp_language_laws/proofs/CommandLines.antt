-- The line of a lawful command is read as this command.
use Rattle.std.proofs.Common.{◌≡◌, ◌≢◌, ℕ, ◌^◌, ◌<◌, ◌≤◌, Bool, true, false, cond, ltb, List, [], ◌∷◌, refl, arith, lit≤}
use Rattle.std.specs.Prelude.{codes}
use Rattle.xp_base.specs.declared.layout.TheConstants.{PARTS, CHANNELS, FIRST_MINOR}
use Rattle.xp_base.specs.declared.body.TheConstants.{BODY_BYTES, LINE_BYTES}
use Rattle.xp_script.specs.declared.command.Command.{Command}
use Rattle.xp_script.specs.declared.command.Command.TheVariants as commands
use Rattle.xp_script.specs.declared.log.Verb.{Verb}
use Rattle.xp_script.specs.declared.log.Verb.TheVariants as verbs
use Rattle.xp_script.specs.Sizes.{longest_limit}
use Rattle.xp_script.specs.Lawful.{IsLawfulCommand}
use Rattle.xp_script.specs.Commands.{verb_of, verb_text}
use Rattle.xp_forms.specs.Forms.{Form, ends, may_end}
use Rattle.xp_forms.specs.Forms.Form.{Choice}
use Rattle.xp_forms.proofs.Fitting.{is_word}
use Rattle.xp_commands.specs.Commands.{command_form}
use Rattle.xp_commands.proofs.LawfulCommands.{keeper}
use Rattle.xp_print.specs.Words.{waits, notifies, command_words}
use Rattle.xp_language_laws.proofs.Lexing.{IsText, text_if}
use Rattle.xp_language_laws.proofs.FormsPrinted.{Prints, ends_there, number_then, payload_then, word_then, other_then, nothing_then}

-- the words after the first
abbrev pub after_first : List (List ℕ) → List (List ℕ)
after_first [] = []
after_first (w ∷ ws) = ws

pub entries_is_text : IsText (codes "entries")
entries_is_text = text_if (codes "entries") refl refl

pub limit_is_text : IsText (codes "limit")
limit_is_text = text_if (codes "limit") refl refl

nowait_is_text : IsText (codes "nowait")
nowait_is_text = text_if (codes "nowait") refl refl

notify_is_text : IsText (codes "notify")
notify_is_text = text_if (codes "notify") refl refl

other_word : codes "notify" ≢ codes "nowait"
other_word e = absurd (let t = is_word (codes "notify") (codes "nowait") e in cc)

pub verb_is_text : (v : Verb) → IsText (verb_text v)
verb_is_text verbs.Register = text_if (codes "register") refl refl
verb_is_text verbs.Unregister = text_if (codes "unregister") refl refl
verb_is_text verbs.Connected = text_if (codes "connected") refl refl
verb_is_text verbs.Closed = text_if (codes "closed") refl refl
verb_is_text verbs.Send = text_if (codes "send") refl refl
verb_is_text verbs.Take = text_if (codes "take") refl refl
verb_is_text verbs.Release = text_if (codes "release") refl refl
verb_is_text verbs.Drain = text_if (codes "drain") refl refl
verb_is_text verbs.Net = text_if (codes "net") refl refl
verb_is_text verbs.Frames = text_if (codes "frames") refl refl
verb_is_text verbs.Deactivate = text_if (codes "deactivate") refl refl
verb_is_text verbs.Activate = text_if (codes "activate") refl refl
verb_is_text verbs.Leave = text_if (codes "leave") refl refl
verb_is_text verbs.Idle = text_if (codes "idle") refl refl
verb_is_text verbs.Offline = text_if (codes "offline") refl refl
verb_is_text verbs.Online = text_if (codes "online") refl refl

pub longest_low : (minor : ℕ) → longest_limit minor ≤ BODY_BYTES
longest_low minor = go (ltb FIRST_MINOR minor)
  where
    go : (b : Bool) → cond b BODY_BYTES LINE_BYTES ≤ BODY_BYTES
    go true = lit≤ tt
    go false = lit≤ tt

pub first_is_verb : (c : Command) → command_words c ≡ verb_text (verb_of c) ∷ after_first (command_words c)
first_is_verb (commands.Register q c n l) = refl
first_is_verb (commands.Unregister q c) = refl
first_is_verb (commands.Connected q c) = refl
first_is_verb (commands.Closed q c) = refl
first_is_verb (commands.Send q c payload wait notify) = refl
first_is_verb (commands.Take q c wait) = refl
first_is_verb (commands.Release q c n) = refl
first_is_verb (commands.Drain q c) = refl
first_is_verb (commands.Net frame) = refl
first_is_verb (commands.Frames n) = refl
first_is_verb (commands.Deactivate q) = refl
first_is_verb (commands.Activate q) = refl
first_is_verb commands.Leave = refl
first_is_verb (commands.Idle n) = refl
first_is_verb commands.Offline = refl
first_is_verb commands.Online = refl

-- the form of what follows the payload of a send
abbrev pub flags_form : ℕ → ℕ → List ℕ → Form Command
flags_form q c payload =
    Choice (codes "nowait")
    (Choice (codes "notify") (ends (commands.Send q c payload false true)) (may_end (commands.Send q c payload false false)))
    (Choice (codes "notify") (ends (commands.Send q c payload true true)) (may_end (commands.Send q c payload true false)))

send_flags : (q c : ℕ) (payload : List ℕ) (wait notify : Bool) → Prints (flags_form q c payload) (waits wait (notifies notify)) (commands.Send q c payload wait notify)
send_flags q c payload true true = other_then (codes "notify") other_word (word_then (codes "notify") notify_is_text ends_there)
send_flags q c payload true false = nothing_then (nothing_then ends_there)
send_flags q c payload false true = word_then (codes "nowait") nowait_is_text (word_then (codes "notify") notify_is_text ends_there)
send_flags q c payload false false = word_then (codes "nowait") nowait_is_text (nothing_then ends_there)

take_flag : (q c : ℕ) (wait : Bool) → Prints (Choice (codes "nowait") (ends (commands.Take q c false)) (may_end (commands.Take q c true))) (waits wait []) (commands.Take q c wait)
take_flag q c true = nothing_then ends_there
take_flag q c false = word_then (codes "nowait") nowait_is_text ends_there

module _ (count own minor : ℕ) (le : count ≤ PARTS) where
  part_small : (q : ℕ) → q < count → q < 2 ^ 64
  part_small q lt = omega (arith, lt, le)

  channel_small : (c : ℕ) → c < CHANNELS → c < 2 ^ 64
  channel_small c lt = omega (arith, lt)

  -- after its word
  pub command_prints : (c : Command) → IsLawfulCommand count own minor c → Prints (command_form (keeper count own minor) (verb_of c)) (after_first (command_words c)) c
  command_prints (commands.Register q c n l) (e, size) =
      let low = longest_low minor in
      let few = size.few in
      let short = size.short in
      number_then q (part_small q e.partner) (e.partner, e.other) (number_then c (channel_small c e.channel) e.channel
      (word_then (codes "entries") entries_is_text (number_then n (omega (arith, few)) (size.some, size.few)
      (word_then (codes "limit") limit_is_text (number_then l (omega (arith, short, low)) (size.short, size.room) ends_there)))))
  command_prints (commands.Unregister q c) e = number_then q (part_small q e.partner) (e.partner, e.other) (number_then c (channel_small c e.channel) e.channel ends_there)
  command_prints (commands.Connected q c) e = number_then q (part_small q e.partner) (e.partner, e.other) (number_then c (channel_small c e.channel) e.channel ends_there)
  command_prints (commands.Closed q c) e = number_then q (part_small q e.partner) (e.partner, e.other) (number_then c (channel_small c e.channel) e.channel ends_there)
  command_prints (commands.Drain q c) e = number_then q (part_small q e.partner) (e.partner, e.other) (number_then c (channel_small c e.channel) e.channel ends_there)
  command_prints (commands.Send q c payload wait notify) (m, few, bytes) =
      let e = m.end in
      number_then q (part_small q e.partner) (e.partner, e.other) (number_then c (channel_small c e.channel) (e.channel, m.message)
      (payload_then payload bytes (omega arith) few (lit≤ tt) (send_flags q c payload wait notify)))
  command_prints (commands.Take q c wait) m =
      let e = m.end in
      number_then q (part_small q e.partner) (e.partner, e.other) (number_then c (channel_small c e.channel) (e.channel, m.message) (take_flag q c wait))
  command_prints (commands.Release q c n) (m, small) =
      let e = m.end in
      number_then q (part_small q e.partner) (e.partner, e.other) (number_then c (channel_small c e.channel) (e.channel, m.message)
      (number_then n small (omega arith, omega (arith, small)) ends_there))
  command_prints (commands.Net frame) (low, high, bytes) = payload_then frame bytes low high (lit≤ tt) ends_there
  command_prints (commands.Frames n) small = number_then n small (omega arith, omega (arith, small)) ends_there
  command_prints (commands.Deactivate q) e = number_then q (part_small q e.0) e ends_there
  command_prints (commands.Activate q) e = number_then q (part_small q e.0) e ends_there
  command_prints commands.Leave h = ends_there
  command_prints (commands.Idle n) h = number_then n (let high = h.1 in omega (arith, high)) h ends_there
  command_prints commands.Offline h = ends_there
  command_prints commands.Online h = ends_there
