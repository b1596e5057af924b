-- Two partitions in contact with each other are in one.
use Rattle.std.proofs.Common.{ℕ, List, ap, sym, ◌∙◌}
use Rattle.xp_base.specs.Memory.{Memory}
use Rattle.xp_base.specs.History.{Event, turns_of}
use Rattle.xp_script.specs.declared.scenario.Scenario.{Scenario}
use Rattle.xp_script.specs.Parts.{part_of}
use Rattle.xp_script.specs.Lawful.{IsLawful}
use Rattle.xp_protocol.specs.State.{State, peer_of}
use Rattle.xp_protocol.specs.Reached.{ReachedWords}
use Rattle.xp_meetings.specs.Agreed.{SessionsAgree}
use Rattle.xp_meetings.proofs.Parts.{part_start, from_state}
use Rattle.xp_meetings.proofs.Both.{both_turned}
use Rattle.xp_meetings.proofs.Touch.{touch}
use Rattle.xp_meetings.proofs.Firsts.{met}

pub agree : (s : Scenario) → IsLawful s → (h : List Event) (m : Memory) → ReachedWords s h m → SessionsAgree s h
agree s law h m r p q lp lq n a b ea eb =
    let g = (met s law h m r).2 in
    let both = g.both p q lp lq n in
    let state : (o : ℕ) → _ = λ o. from_state (part_of s o) (part_start (part_of s o)) (turns_of o h) in
    let one = touch _ _ a both (ap (λ (st : State). (peer_of st q).contact) (state p) ∙ ea) in
    let two = touch _ _ b (both_turned _ _ both) (ap (λ (st : State). (peer_of st p).contact) (state q) ∙ eb) in
    (one.own ∙ sym (two.named one.ready), one.named two.ready ∙ sym two.own)
