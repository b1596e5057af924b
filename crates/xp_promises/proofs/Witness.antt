-- That the rules can be met: two ends close their connection, since one withdraws its registration; fail to open the next epoch, since their limits are unequal;
-- open the one after it, with other sizes; and agree on the lesser of two limits, where both versions know entries of several lines.
use Rattle.std.proofs.Common.{◌≡◌, ℕ, true, false, List, [], ◌∷◌, refl, Some, None}
use Rattle.xp_base.specs.declared.link.Kind.TheVariants.{CloseRequest, CloseReply, OpenRequest, OpenReply, OpenComplete}
use Rattle.xp_base.specs.declared.link.LinkState.TheVariants.{Connected, Closing}
use Rattle.xp_base.specs.declared.reason.Reason.TheVariants.{UnequalSizes}
use Rattle.xp_base.specs.Kinds.{Kinds, no_kinds, also}
use Rattle.xp_script.specs.declared.part.Link.{Link}
use Rattle.xp_protocol.specs.declared.rule.Argument.{Argument}
use Rattle.xp_protocol.specs.declared.rule.Argument.TheVariants.{Request, Reply, Code}
use Rattle.xp_protocol.specs.declared.rule.LinkRule.{LinkRule}
use Rattle.xp_protocol.specs.declared.rule.LinkRule.TheVariants.{SetFlag, ZeroGet, ZeroPut, StoreArgument, ReadArgument}
use Rattle.xp_protocol.specs.State.{End, Size, idle_end, no_shake, first_contact, warm_end, link_of, may_copy}
use Rattle.xp_protocol.specs.Linking.{link_can, link_effect, argument_word, flags_got, settled}
use Rattle.xp_protocol.specs.Acts.{register_begun, unregister_begun}
use Rattle.xp_protocol.specs.Sending.{new_sending}
use Rattle.xp_protocol.specs.Pulling.{new_pulling}

-- the argument words of an end
record Three : Type 0 where
  request : ℕ
  reply : ℕ
  code : ℕ

abbrev put : Argument → ℕ → Three → Three
put Request v w = record w { request = v }
put Reply v w = record w { reply = v }
put Code v w = record w { code = v }

abbrev get : Argument → Three → ℕ
get Request w = w.request
get Reply w = w.reply
get Code w = w.code

-- two ends, their words of flags, and their arguments
record Two : Type 0 where
  a : End
  b : End
  to_a : Kinds
  to_b : Kinds
  by_a : Three
  by_b : Three

data Turn : Type 0 where
  ByA : LinkRule → Turn
  ByB : LinkRule → Turn
  TakenByA : Turn
  TakenByB : Turn
  RegisterA : Size → Turn
  RegisterB : Size → Turn
  UnregisterA : Turn

abbrev flagged_by : LinkRule → Kinds → Kinds
flagged_by (SetFlag k) w = also k w
flagged_by m w = w

abbrev put_by : ℕ → LinkRule → End → Three → Three
put_by q (StoreArgument x) e w = put x (argument_word q 0 e x) w
put_by q m e w = w

abbrev read_by : LinkRule → Three → ℕ
read_by (ReadArgument x) w = get x w
read_by m w = 0

-- the entries of b for a begin at 2128, those of a for b at 2640
abbrev does : Turn → Two → Two
does (ByA m) t = record t { a = (link_effect 2128 t.a m (read_by m t.by_b)).local; to_b = flagged_by m t.to_b; by_a = put_by 1 m t.a t.by_a }
does (ByB m) t = record t { b = (link_effect 2640 t.b m (read_by m t.by_a)).local; to_a = flagged_by m t.to_a; by_b = put_by 0 m t.b t.by_b }
does TakenByA t = record t { a = (flags_got t.to_a t.a).local; to_a = no_kinds }
does TakenByB t = record t { b = (flags_got t.to_b t.b).local; to_b = no_kinds }
does (RegisterA z) t = record t { a = (register_begun t.a.registration z t.a).local }
does (RegisterB z) t = record t { b = (register_begun t.b.registration z t.b).local }
does UnregisterA t = record t { a = (unregister_begun t.a.registration t.a).local }

abbrev Can : Turn → Two → Type 0
Can (ByA m) t = link_can t.a m
Can (ByB m) t = link_can t.b m
Can x t = Unit {0}

abbrev Runs : List Turn → Two → Type 0
Runs [] t = Unit {0}
Runs (x ∷ xs) t = Can x t × Runs xs (does x t)

abbrev after : List Turn → Two → Two
after [] t = t
after (x ∷ xs) t = after xs (does x t)

abbrev line : Link
line = record { partner = 1; channel = 0; entries = 8; limit = 112 }

abbrev first : Two
first = record { a = warm_end false line; b = warm_end false (record line { partner = 0 }); to_a = no_kinds; to_b = no_kinds; by_a = record { request = 524400; reply = 2640; code = 0 }; by_b = record { request = 524400; reply = 2128; code = 0 } }

-- a withdraws its registration; b hears of it, and closes too
abbrev closing : List Turn
closing =
    UnregisterA ∷ ByA (StoreArgument Code) ∷ ByA (SetFlag CloseRequest) ∷ TakenByB ∷ ByB (ReadArgument Code) ∷ ByB (StoreArgument Code)
    ∷ ByB (SetFlag CloseRequest) ∷ ByB (SetFlag CloseReply) ∷ TakenByA ∷ ByA (ReadArgument Code) ∷ ByA (SetFlag CloseReply) ∷ TakenByB ∷ []

closing_runs : Runs closing first
unfolding settled
closing_runs = (tt, ((refl, refl), ((refl, refl, refl), (tt, ((refl, refl, refl), ((refl, refl), ((refl, refl, refl), ((refl, refl, tt), (tt, ((refl, refl, refl), ((refl, refl, tt), (tt, tt))))))))))))

abbrev closed : Two
closed = after closing first

over : (closed.a.epoch ≡ 1) × (closed.b.epoch ≡ 1) × (closed.a.registration ≡ None) × (closed.b.registration ≡ Some (record { entries = 8; limit = 112 })) × (may_copy closed.a ≡ false)
unfolding settled
over = (refl, refl, refl, refl, refl)

-- a registers for another limit: both ask, and both see that the limits are unequal
abbrev asking : List Turn
asking =
    RegisterA (record { entries = 4; limit = 64 }) ∷ ByA ZeroGet ∷ ByA ZeroPut ∷ ByA (StoreArgument Request) ∷ ByA (SetFlag OpenRequest) ∷ ByB ZeroPut
    ∷ ByB ZeroGet ∷ ByB (StoreArgument Request) ∷ ByB (SetFlag OpenRequest) ∷ TakenByA ∷ TakenByB ∷ ByA (ReadArgument Request)
    ∷ ByB (ReadArgument Request) ∷ []

asking_runs : Runs asking closed
unfolding settled
asking_runs = (tt, ((refl, refl, refl), ((refl, refl, refl), ((refl, refl), ((refl, refl, (refl, refl, refl)), ((refl, refl, refl), ((refl, refl, refl), ((refl, refl), ((refl, refl, (refl, refl, refl)), (tt, (tt, ((refl, refl, refl), ((refl, refl, refl), tt)))))))))))))

abbrev asked : Two
asked = after asking closed

unequal : (link_of asked.a ≡ Closing (UnequalSizes 64 112)) × (link_of asked.b ≡ Closing (UnequalSizes 112 64))
unfolding settled
unequal = (refl, refl)

-- both close, and no registration is left
abbrev shutting : List Turn
shutting =
    ByA (StoreArgument Code) ∷ ByA (SetFlag CloseRequest) ∷ ByB (StoreArgument Code) ∷ ByB (SetFlag CloseRequest) ∷ TakenByA ∷ TakenByB
    ∷ ByA (ReadArgument Code) ∷ ByB (ReadArgument Code) ∷ ByA (SetFlag CloseReply) ∷ ByB (SetFlag CloseReply) ∷ TakenByA ∷ TakenByB ∷ []

shutting_runs : Runs shutting asked
unfolding settled
shutting_runs = ((refl, refl), ((refl, refl, refl), ((refl, refl), ((refl, refl, refl), (tt, (tt, ((refl, refl, refl), ((refl, refl, refl), ((refl, refl, tt), ((refl, refl, tt), (tt, (tt, tt))))))))))))

abbrev shut : Two
shut = after shutting asked

withdrawn : (shut.a.epoch ≡ 2) × (shut.b.epoch ≡ 2) × (shut.a.registration ≡ None) × (shut.b.registration ≡ None)
unfolding settled
withdrawn = (refl, refl, refl, refl)

-- both as they are in an epoch in which nothing was sent, and not registered
abbrev blank : End
blank = record idle_end { epoch = 2; shake = record no_shake { meet = Some first_contact } }

abbrev both_blank : Two
both_blank = record first { a = blank; b = blank }

-- once both are registered, they open
abbrev after_registers : List Turn
after_registers =
    ByA ZeroGet ∷ ByA ZeroPut ∷ ByA (StoreArgument Request) ∷ ByA (SetFlag OpenRequest)
    ∷ TakenByB ∷ ByB (ReadArgument Request) ∷ ByB ZeroPut ∷ ByB ZeroGet ∷ ByB (StoreArgument Request) ∷ ByB (SetFlag OpenRequest)
    ∷ ByB (StoreArgument Reply) ∷ ByB (SetFlag OpenReply) ∷ TakenByA ∷ ByA (ReadArgument Reply) ∷ ByA (ReadArgument Request) ∷ ByA (StoreArgument Reply)
    ∷ ByA (SetFlag OpenReply) ∷ ByA (SetFlag OpenComplete) ∷ TakenByB ∷ ByB (ReadArgument Reply) ∷ ByB (SetFlag OpenComplete) ∷ TakenByA ∷ []

-- with one limit
abbrev opening : List Turn
opening = RegisterA (record { entries = 4; limit = 64 }) ∷ RegisterB (record { entries = 2; limit = 64 }) ∷ after_registers

opening_runs : Runs opening both_blank
unfolding settled
opening_runs = (tt, (tt, ((refl, refl, refl), ((refl, refl, refl), ((refl, refl), ((refl, refl, (refl, refl, refl)), (tt, ((refl, refl, refl), ((refl, refl, refl), ((refl, refl, refl), ((refl, refl), ((refl, refl, (refl, refl, refl)), ((refl, refl), ((refl, refl, refl), (tt, ((refl, refl, refl), ((refl, refl, refl), ((refl, refl), ((refl, refl, refl), ((refl, refl, tt), (tt, ((refl, refl, refl), ((refl, refl, tt), (tt, tt))))))))))))))))))))))))

abbrev opened : Two
opened = after opening both_blank

again : (opened.a.epoch ≡ 2) × (opened.b.epoch ≡ 2) × (link_of opened.a ≡ Connected) × (link_of opened.b ≡ Connected) × (opened.a.sides.send.entries ≡ 4) × (opened.a.sides.pull.entries ≡ 2) × (opened.b.sides.pull.limit ≡ 64)
unfolding settled
again = (refl, refl, refl, refl, refl, refl, refl)

-- both versions know entries of several lines, and the limits differ: the lesser is agreed, for both directions
abbrev blank_new : End
blank_new = record blank { shake = record no_shake { meet = Some first_contact; both_new = true } }

abbrev differing : List Turn
differing = RegisterA (record { entries = 4; limit = 64 }) ∷ RegisterB (record { entries = 2; limit = 112 }) ∷ after_registers

differing_runs : Runs differing (record first { a = blank_new; b = blank_new })
unfolding settled
differing_runs = (tt, (tt, ((refl, refl, refl), ((refl, refl, refl), ((refl, refl), ((refl, refl, (refl, refl, refl)), (tt, ((refl, refl, refl), ((refl, refl, refl), ((refl, refl, refl), ((refl, refl), ((refl, refl, (refl, refl, refl)), ((refl, refl), ((refl, refl, refl), (tt, ((refl, refl, refl), ((refl, refl, refl), ((refl, refl), ((refl, refl, refl), ((refl, refl, tt), (tt, ((refl, refl, refl), ((refl, refl, tt), (tt, tt))))))))))))))))))))))))

abbrev agreed : Two
agreed = after differing (record first { a = blank_new; b = blank_new })

lesser_agreed : (link_of agreed.a ≡ Connected) × (link_of agreed.b ≡ Connected) × (agreed.a.sides.send ≡ new_sending 4 64) × (agreed.a.sides.pull ≡ new_pulling 2 64) × (agreed.b.sides.send ≡ new_sending 2 64) × (agreed.b.sides.pull ≡ new_pulling 4 64)
unfolding settled
lesser_agreed = (refl, refl, refl, refl, refl, refl)
