-- The sends of a partition, each with its steps from its beginning to its answer, and the causes
-- for which a send is answered.
use Rattle.std.specs.Prelude.{◌≡◌, ℕ, ◌+◌, ◌-◌, ◌<◌, Bool, true, false, ◌&&◌, if◌then◌else◌, nat_eq, List, [], ◌∷◌, ◌++◌, slice_get, Option, Some, None}
use Rattle.xp_base.specs.declared.answer.SendAnswer.{SendAnswer}
use Rattle.xp_base.specs.declared.answer.SendAnswer.TheVariants.{Ok as SendOk, Disconnecting, NoSlot}
use Rattle.xp_base.specs.declared.link.LinkState.{LinkState}
use Rattle.xp_base.specs.declared.link.LinkState.TheVariants.{Connected, Closing}
use Rattle.xp_base.specs.declared.step.OpKind.{OpKind}
use Rattle.xp_base.specs.declared.step.OpKind.TheVariants.{Store}
use Rattle.xp_base.specs.declared.step.Answer.{Answer}
use Rattle.xp_base.specs.declared.step.Answer.TheVariants.{Word}
use Rattle.xp_base.specs.History.{Act, Begun, Answered, Noticed, Marked, Turn, Event, turns_of}
use Rattle.xp_script.specs.declared.command.Command.{Command}
use Rattle.xp_script.specs.declared.command.Command.TheVariants.{Send}
use Rattle.xp_script.specs.declared.log.LogAnswer.{LogAnswer}
use Rattle.xp_script.specs.declared.log.LogAnswer.TheVariants.{Send as SendAnswered}
use Rattle.xp_script.specs.declared.log.Verb.{Verb}
use Rattle.xp_script.specs.declared.log.Verb.TheVariants.{Send as SendVerb}
use Rattle.xp_script.specs.declared.log.Entry.{Entry}
use Rattle.xp_script.specs.declared.part.ScenarioPart.{ScenarioPart}
use Rattle.xp_script.specs.declared.scenario.Scenario.{Scenario}
use Rattle.xp_script.specs.Parts.{part_of}
use Rattle.xp_protocol.specs.declared.rule.Rule.{Rule}
use Rattle.xp_protocol.specs.declared.rule.Rule.TheVariants.{Link}
use Rattle.xp_protocol.specs.declared.rule.LinkRule.TheVariants.{Ring}
use Rattle.xp_protocol.specs.declared.rule.RingRule.TheVariants.{ReadGet, AcceptMessage}
use Rattle.xp_protocol.specs.State.{State, End, Size, end_of, link_of}
use Rattle.xp_protocol.specs.Sending.{link_refusal}
use Rattle.xp_protocol.specs.Decode.{rule_of}
use Rattle.xp_protocol.specs.Acts.{upcoming, current, due, first_of, too_long, after_act, after_acts}
use Rattle.xp_protocol.specs.Runs.{start, after_step, after_turn}
use Rattle.xp_protocol.specs.Logged.{entries_from}

-- a step that is made while a send is in progress: the rule that it follows, what it does, its
-- answer, and the state of the send's link after it
pub record Passed : Type 0 where
  pub rule : Option Rule
  pub kind : OpKind
  pub answer : Answer
  pub link : LinkState

-- a send: the boot and the number of its command, its end at its beginning, the steps from there to
-- its answer, and the answer, where it has one
pub record SendRun : Type 0 where
  pub boot : ℕ
  pub number : ℕ
  pub partner : ℕ
  pub channel : ℕ
  pub payload : List ℕ
  pub wait : Bool
  pub beginning : End
  pub steps : List Passed
  pub answer : Option LogAnswer

-- the sends of a partition's turns, the last one first
abbrev pub begun_send : State → Option Command → List SendRun → List SendRun
begun_send st (Some (Send q c payload wait notify)) xs =
    record {
      boot = st.clock.boots;
      number = st.script.begun + 1;
      partner = q;
      channel = c;
      payload = payload;
      wait = wait;
      beginning = end_of st q c;
      steps = [];
      answer = None;
    } ∷ xs
begun_send st x xs = xs

abbrev pub answered_send : Option Command → Option LogAnswer → List SendRun → List SendRun
answered_send (Some (Send q c payload wait notify)) answer (x ∷ xs) =
    record x { answer = answer } ∷ xs
answered_send x answer xs = xs

abbrev pub sends_act : ScenarioPart → State → Act → List SendRun → List SendRun
sends_act s st Begun xs = begun_send st (upcoming s st) xs
sends_act s st Answered xs = answered_send (current s st) (due s st) xs
sends_act s st (Noticed q c number how) xs = xs

abbrev pub sends_acts : ScenarioPart → State → List Act → List SendRun → List SendRun
sends_acts s st [] xs = xs
sends_acts s st (a ∷ more) xs = sends_acts s (after_act s st a) more (sends_act s st a xs)

-- a step belongs to the send in progress, where there is one
abbrev pub is_send : Option Command → Bool
is_send (Some (Send q c payload wait notify)) = true
is_send x = false

abbrev pub is_sending : ScenarioPart → State → Bool
is_sending s st = st.script.doing && is_send (current s st)

abbrev pub passed : ScenarioPart → State → Marked → ℕ → ℕ → Passed
passed s st x q c =
    record {
      rule = rule_of s st x.step.op x.mark;
      kind = x.step.op.kind;
      answer = x.step.answer;
      link = link_of (end_of (after_step s st (Some x)) q c);
    }

abbrev pub stepped : ScenarioPart → State → Marked → List SendRun → List SendRun
stepped s st x [] = []
stepped s st x (y ∷ ys) =
    record y { steps = y.steps ++ passed s st x y.partner y.channel ∷ [] } ∷ ys

abbrev pub sends_step : ScenarioPart → State → Option Marked → List SendRun → List SendRun
sends_step s st None xs = xs
sends_step s st (Some x) xs = if is_sending s st then stepped s st x xs else xs

abbrev pub sends_turn : ScenarioPart → State → Turn → List SendRun → List SendRun
sends_turn s st t xs =
    sends_acts s (after_step s (after_acts s st t.before) t.made) t.after
    (sends_step s (after_acts s st t.before) t.made (sends_acts s st t.before xs))

abbrev pub sends_from : ScenarioPart → State → List Turn → List SendRun → List SendRun
sends_from s st [] xs = xs
sends_from s st (t ∷ ts) xs = sends_from s (after_turn s st t) ts (sends_turn s st t xs)

abbrev pub sends_of : Scenario → List Event → ℕ → List SendRun
sends_of s h p = sends_from (part_of s p) (start (part_of s p)) (turns_of p h) []

-- the causes of a send's answer. At its beginning the payload is too long for an end that is
-- registered: longer than the limit of the connection where the link is connected, and else than
-- that of the registration; or the link is not connected;
abbrev pub limit_at : Option Size → LinkState → ℕ → Option ℕ
limit_at None link limit = None
limit_at (Some size) Connected limit = Some limit
limit_at (Some size) link limit = Some size.limit

abbrev pub refused_first : End → List ℕ → Option SendAnswer
refused_first e payload =
    first_of (too_long (limit_at e.registration (link_of e) e.sides.send.limit) payload)
    (link_refusal (link_of e))

-- a get was loaded that shows a full queue to a send that may not wait: put is the get plus the
-- entries of the queue;
abbrev pub full_told : ℕ → ℕ → End → Option Rule → Answer → Option SendAnswer
full_told q c e (Some (Link k d (Ring ReadGet))) (Word get) =
    if (nat_eq k q && nat_eq d c) && nat_eq e.sides.send.put (get + e.sides.send.entries)
    then Some (NoSlot e.sides.send.put get) else None
full_told q c e rule answer = None

abbrev pub first_full : ℕ → ℕ → End → List Passed → Option SendAnswer
first_full q c e [] = None
first_full q c e (y ∷ ys) = first_of (full_told q c e y.rule y.answer) (first_full q c e ys)

-- the link began to close;
abbrev pub closed_told : LinkState → Option SendAnswer
closed_told (Closing reason) = Some (Disconnecting reason)
closed_told state = None

abbrev pub first_closed : List Passed → Option SendAnswer
first_closed [] = None
first_closed (y ∷ ys) = first_of (closed_told y.link) (first_closed ys)

-- or the last step stored the number of the message, plus one, as put
abbrev pub accepted_told : ℕ → ℕ → Option Rule → OpKind → Option SendAnswer
accepted_told q c (Some (Link k d (Ring AcceptMessage))) (Store put) =
    if nat_eq k q && nat_eq d c then Some (SendOk (put - 1)) else None
accepted_told q c rule kind = None

abbrev pub last_accepted : ℕ → ℕ → List Passed → Option SendAnswer
last_accepted q c [] = None
last_accepted q c (y ∷ []) = accepted_told q c y.rule y.kind
last_accepted q c (y ∷ z ∷ more) = last_accepted q c (z ∷ more)

abbrev pub first_cause : SendRun → Option SendAnswer
first_cause x =
    first_of (refused_first x.beginning x.payload)
    (first_of (if x.wait then None else first_full x.partner x.channel x.beginning x.steps)
    (first_of (first_closed x.steps) (last_accepted x.partner x.channel x.steps)))

-- the log of a partition, its entries of sends, and the entries that its sends give
abbrev pub entries_of : Scenario → List Event → ℕ → List Entry
entries_of s h p = entries_from (part_of s p) (start (part_of s p)) (turns_of p h) []

abbrev pub send_entry : Verb → Entry → List Entry
send_entry SendVerb x = x ∷ []
send_entry verb x = []

abbrev pub send_entries : List Entry → List Entry
send_entries [] = []
send_entries (x ∷ xs) = send_entry x.verb x ++ send_entries xs

abbrev pub entry_of : SendRun → Entry
entry_of x = record { boot = x.boot; number = x.number; verb = SendVerb; answer = x.answer }

abbrev pub entries_given : List SendRun → List Entry
entries_given [] = []
entries_given (x ∷ xs) = entries_given xs ++ entry_of x ∷ []

-- SendAnswers: the entries of sends in the log are those of the sends of the turns, in their order;
-- and each send that is answered is answered for the first cause that holds
pub record SendAnswers (s : Scenario) (h : List Event) : Type 0 where
  pub logged : (p : ℕ) → p < s.count →
      send_entries (entries_of s h p) ≡ entries_given (sends_of s h p)
  pub caused : (p place : ℕ) → p < s.count → (x : SendRun) →
      slice_get (sends_of s h p) place ≡ Some x → (answer : LogAnswer) → x.answer ≡ Some answer →
      (cause : SendAnswer) × (first_cause x ≡ Some cause) × (answer ≡ SendAnswered cause)
