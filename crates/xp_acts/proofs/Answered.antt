-- What the answer of the command in progress makes of what is kept.
use Rattle.std.proofs.Common.{◌≡◌, ℕ, ◌-◌, ◌<◌, Bool, true, List, [], ◌∷◌, length, map, refl, ap, sym, ◌∙◌, subst, Option, Some, None}
use Rattle.std.specs.Prelude.{if◌then◌else◌, IsSome, IfSome}
use Rattle.xp_base.specs.declared.layout.TheConstants.{CHANNELS}
use Rattle.xp_base.specs.History.{Answered}
use Rattle.xp_script.specs.Commands.{verb_of}
use Rattle.xp_script.specs.declared.command.Command.{Command}
use Rattle.xp_script.specs.declared.log.LogAnswer.{LogAnswer}
use Rattle.xp_script.specs.declared.part.ScenarioPart.{ScenarioPart}
use Rattle.xp_protocol.specs.State.{State, End, Peer, Script}
use Rattle.xp_protocol.specs.Acts.{EndName, current, due, due_to, due_at, due_by, partition_due, named_end, end_answered, answered_by, aim_by, aim_of, with_aim, noted_aim, after_act, noted_act, script_acted}
use Rattle.xp_channel.specs.Room.{HasRoom}
use Rattle.xp_partner.specs.Partner.{peer_seen, channel_of}
use Rattle.xp_partition.specs.declared.keeping.Keeping.{Keeping}
use Rattle.xp_partition.specs.Life.{life_seen}
use Rattle.xp_partner.proofs.Channels.{room_left}
use Rattle.xp_partition.specs.Partners.{Partners, partner_at, AllHaveNotesLeft}
use Rattle.xp_partition.specs.Keeping.{state_of, IsKept}
use Rattle.xp_partition.proofs.Asking.{end_is}
use Rattle.xp_acts.specs.Acts.{Acts}
use Rattle.xp_acts.specs.Becoming.{Becomes}
use Rattle.xp_acts.specs.Ends.{peers_at, notes_at}
use Rattle.xp_acts.specs.Commands.{CanAnswer}
use Rattle.xp_acts.proofs.Becoming.{once, unchanged, paid_less}
use Rattle.xp_acts.proofs.Begun.{Noting, next_named}

-- what is due, by the command and the end that it names
due_named : (x : Keeping) (m : Command) (o : Option EndName) → current x.part (state_of x) ≡ Some m → named_end m ≡ o
    → due_to x.part (state_of x) (current x.part (state_of x)) ≡ due_at x.part (state_of x) m o
due_named x m o h e = ap (due_to x.part (state_of x)) h ∙ ap (due_at x.part (state_of x) m) e

pub due_end : (x : Keeping) (m : Command) (q c : ℕ) → current x.part (state_of x) ≡ Some m → named_end m ≡ Some (record { partner = q; channel = c })
    → due_by (verb_of m) (channel_of (partner_at x.partners.list q) c).end ≡ due_to x.part (state_of x) (current x.part (state_of x))
due_end x m q c h e = ap (due_by (verb_of m)) (end_is x q c) ∙ sym (due_named x m (Some (record { partner = q; channel = c })) h e)

pub due_none : (x : Keeping) (m : Command) → current x.part (state_of x) ≡ Some m → named_end m ≡ None
    → partition_due x.part (state_of x) m ≡ due_to x.part (state_of x) (current x.part (state_of x))
due_none x m h e = sym (due_named x m None h e)

-- what an answer makes of the partners
abbrev peers_by : State → Command → Option EndName → List Peer
peers_by st m o = (with_aim (aim_by st end_answered m o) st).peers

abbrev notes_by : State → Command → Option EndName → Noting
notes_by st m o = λ q c. noted_aim (aim_by st end_answered m o) q c

answered_peers : (s : ScenarioPart) (st : State) (m : Command) (o : Option EndName) → current s st ≡ Some m → named_end m ≡ o → (after_act s st Answered).peers ≡ peers_by st m o
answered_peers s st m o h e = ap (λ (r : Option Command). (with_aim (aim_of st end_answered r) st).peers) h ∙ ap (peers_by st m) e

answered_notes : (s : ScenarioPart) (st : State) (m : Command) (o : Option EndName) → current s st ≡ Some m → named_end m ≡ o → ◌≡◌ {A = Noting} (noted_act s st Answered) (notes_by st m o)
answered_notes s st m o h e = ap {B = Noting} (λ (r : Option Command) (q c : ℕ). noted_aim (aim_of st end_answered r) q c) h ∙ ap (notes_by st m) e

named_becomes : (x : Keeping) (m : Command) (o : Option EndName) (ps : Partners) → current x.part (state_of x) ≡ Some m → named_end m ≡ o
    → Becomes 1 x.partners (peers_by (state_of x) m o) (notes_by (state_of x) m o) ps
    → Becomes 1 x.partners (after_act x.part (state_of x) Answered).peers (noted_act x.part (state_of x) Answered) ps
named_becomes x m o ps h e b =
    subst (λ (peers : List Peer). Becomes 1 x.partners peers (noted_act x.part (state_of x) Answered) ps) (sym (answered_peers x.part (state_of x) m o h e))
    (subst (λ (notes : Noting). Becomes 1 x.partners (peers_by (state_of x) m o) notes ps) (sym (answered_notes x.part (state_of x) m o h e)) b)

pub answered_none : (x : Keeping) (m : Command) → current x.part (state_of x) ≡ Some m → named_end m ≡ None
    → Becomes 1 x.partners (after_act x.part (state_of x) Answered).peers (noted_act x.part (state_of x) Answered) x.partners
answered_none x m h e = named_becomes x m None x.partners h e (paid_less x.partners (map peer_seen x.partners.list) (λ q c. []) x.partners (unchanged x.partners))

pub answered_end : (x : Keeping) (m : Command) (q c : ℕ) (ps : Partners) → current x.part (state_of x) ≡ Some m → named_end m ≡ Some (record { partner = q; channel = c })
    → Becomes 1 x.partners (peers_at q c (answered_by (verb_of m) (channel_of (partner_at x.partners.list q) c).end) (map peer_seen x.partners.list))
    (notes_at q c (answered_by (verb_of m) (channel_of (partner_at x.partners.list q) c).end)) ps
    → Becomes 1 x.partners (after_act x.part (state_of x) Answered).peers (noted_act x.part (state_of x) Answered) ps
answered_end x m q c ps h e b = named_becomes x m (Some (record { partner = q; channel = c })) ps h e
    (subst (λ (end : End). Becomes 1 x.partners (peers_at q c (answered_by (verb_of m) end) (map peer_seen x.partners.list)) (notes_at q c (answered_by (verb_of m) end)) ps) (end_is x q c) b)

-- the answer that was due
some_is : {A : Type 0} (o : Option A) (a : A) → o ≡ Some a → IsSome o
some_is o a h = subst IsSome (sym h) refl

pub answered_acts : (x : Keeping) (a : LogAnswer) (ps : Partners) (sc : Script) → IsKept x → CanAnswer x → due_to x.part (state_of x) (current x.part (state_of x)) ≡ Some a → sc ≡ script_acted Answered x.clock.turns x.script
    → Becomes 1 x.partners (after_act x.part (state_of x) Answered).peers (noted_act x.part (state_of x) Answered) ps
    → Acts x (record x { partners = ps; script = sc }) (Answered ∷ [])
answered_acts x a ps sc h can e i b = once 1 x Answered ps sc h (ap life_seen can.up, some_is (due x.part (state_of x)) a (due_doing x can.doing ∙ e)) i b where
  due_doing : (x : Keeping) → x.script.doing ≡ true → due x.part (state_of x) ≡ due_to x.part (state_of x) (current x.part (state_of x))
  due_doing x d = ap (λ (b : Bool). if b then due_to x.part (state_of x) (current x.part (state_of x)) else None) d

-- the end of the command in progress
pub current_end : (x : Keeping) (m : Command) (n : EndName) → IsKept x → Some m ≡ current x.part (state_of x) → Some n ≡ named_end m → (n.partner < length x.partners.list) × (n.channel < CHANNELS)
current_end x m n h e d = next_named x (x.script.begun - 1) m n h (sym e) (sym d)

pub current_room : (x : Keeping) (q c : ℕ) → AllHaveNotesLeft 1 x.partners → (q < length x.partners.list) × (c < CHANNELS) → HasRoom (channel_of (partner_at x.partners.list q) c)
current_room x q c h l = room_left 0 (channel_of (partner_at x.partners.list q) c) (h q l.0 c l.1)

pub if_some : {A : Type 0} (P Q : Type 0) (o : Option A) → (P → Q) → IfSome o (λ a. P) → IfSome o (λ a. Q)
if_some P Q None f h = tt
if_some P Q (Some a) f h = f h

pub answered_in : (x y : Keeping) (a : LogAnswer) (sc : Script) → IsKept x → CanAnswer x → Some a ≡ due_to x.part (state_of x) (current x.part (state_of x)) → y ≡ record x { partners = y.partners } → ((turns : ℕ) → sc ≡ script_acted Answered turns y.script)
    → Becomes 1 x.partners (after_act x.part (state_of x) Answered).peers (noted_act x.part (state_of x) Answered) y.partners
    → Acts x (record y { script = sc }) (Answered ∷ [])
answered_in x y a sc h can due rest e b =
    subst (λ (z : Keeping). Acts x (record z { script = sc }) (Answered ∷ [])) (sym rest)
    (answered_acts x a y.partners sc h can (sym due) (e x.clock.turns ∙ ap (λ (z : Keeping). script_acted Answered x.clock.turns z.script) rest) b)
