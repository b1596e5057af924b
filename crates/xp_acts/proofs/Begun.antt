-- The next command of the script, and what its beginning makes of what is kept.
use Rattle.std.proofs.Common.{◌≡◌, ℕ, zero, suc, ◌<◌, ◌^◌, List, [], ◌∷◌, length, map, refl, ap, sym, ◌∙◌, subst, arith, Option, Some, None}
use Rattle.std.specs.Prelude.{slice_get, slice_index_or}
use Rattle.std.proofs.lemmas.Option.{get_or_from_slice_get}
use Rattle.xp_base.specs.declared.layout.TheConstants.{CHANNELS}
use Rattle.xp_base.specs.History.{Begun}
use Rattle.xp_script.specs.declared.command.Command.{Command}
use Rattle.xp_script.specs.declared.command.Command.TheVariants as commands
use Rattle.xp_script.specs.declared.part.ScenarioPart.{ScenarioPart}
use Rattle.xp_protocol.specs.Effects.{Note}
use Rattle.xp_protocol.specs.Parts.{script_in, IsLawfulCommand}
use Rattle.xp_protocol.specs.State.{State, End, Peer, Script, Up, end_of}
use Rattle.xp_protocol.specs.Acts.{EndName, upcoming, named_end, end_begun, aim_by, aim_of, with_aim, noted_aim, peers_wanted, after_act, noted_act, script_acted, MayAct}
use Rattle.xp_protocol.proofs.Lawful.{lawful_command}
use Rattle.xp_counts.specs.Counted.{AreCounted, IsEndCounted}
use Rattle.xp_channel.specs.Answering.{IsWellFormed}
use Rattle.xp_channel.specs.Room.{IsCountable}
use Rattle.xp_partner.specs.Partner.{peer_seen, channel_of}
use Rattle.xp_partition.specs.declared.keeping.Keeping.{Keeping}
use Rattle.xp_partition.specs.declared.life.Life.{Life}
use Rattle.xp_partition.specs.declared.life.Life.TheVariants as lives
use Rattle.xp_partition.specs.Life.{life_seen}
use Rattle.xp_partition.specs.Partners.{Partners, partner_at}
use Rattle.xp_partition.specs.Keeping.{state_of, IsKept}
use Rattle.xp_partition.proofs.Lists.{past_get}
use Rattle.xp_partition.proofs.Asking.{end_is}
use Rattle.xp_acts.specs.Acts.{Acts}
use Rattle.xp_acts.specs.Becoming.{Becomes, AreNumbered}
use Rattle.xp_acts.specs.Commands.{peers_begun, notes_begun, CanBegin}
use Rattle.xp_acts.proofs.Becoming.{once}

-- a partition that is up
pub up_of : (k : Life) → life_seen k ≡ Up → k ≡ lives.Up
up_of lives.Booting h = absurd (cc)
up_of lives.Up h = refl
up_of (lives.Halted word) h = absurd (cc)

-- a script that is there, or isn't
pub script_some : (xs : List (List Command)) (i : ℕ) (x : List Command) → slice_get xs i ≡ Some x → slice_index_or xs i [] ≡ x
script_some xs i x h = get_or_from_slice_get xs i x [] h

pub script_none : (xs : List (List Command)) (i : ℕ) → slice_get xs i ≡ None → slice_index_or xs i [] ≡ []
script_none xs i h = past_get xs i [] h

pub ruleset scripted = (script_some, script_none)

-- a command is there only below the end of the script
get_below : (xs : List Command) (i : ℕ) (x : Command) → slice_get xs i ≡ Some x → i < length xs
get_below [] i x h = absurd (cc)
get_below (y ∷ ys) zero x h = omega arith
get_below (y ∷ ys) (suc i) x h = omega (arith, get_below ys i x h)

pub get_none : (xs : List Command) (i : ℕ) → slice_get xs i ≡ None → i < length xs → ⊥
get_none [] i h l = omega (arith, l)
get_none (y ∷ ys) zero h l = absurd (cc)
get_none (y ∷ ys) (suc i) h l = get_none ys i h (omega (arith, l))

-- it is well formed, and names an end that there is
well_formed : (s : ScenarioPart) (x : Command) → IsLawfulCommand s x → IsWellFormed x
well_formed s (commands.Register q c entries limit) h = h.1
well_formed s (commands.Unregister q c) h = tt
well_formed s (commands.Connected q c) h = tt
well_formed s (commands.Closed q c) h = tt
well_formed s (commands.Send q c payload wait notify) h = h.1
well_formed s (commands.Take q c wait) h = tt
well_formed s (commands.Release q c number) h = tt
well_formed s (commands.Drain q c) h = tt
well_formed s (commands.Net frame) h = tt
well_formed s (commands.Frames count) h = tt
well_formed s (commands.Deactivate q) h = tt
well_formed s (commands.Activate q) h = tt
well_formed s commands.Leave h = tt
well_formed s (commands.Idle turns) h = tt
well_formed s commands.Offline h = tt
well_formed s commands.Online h = tt

some_same : (m n : EndName) → Some m ≡ Some n → m ≡ n
some_same m n h = cc

abbrev IsEndIn : ScenarioPart → EndName → Type 0
IsEndIn s n = (n.partner < s.count) × (n.channel < CHANNELS)

named_by : (s : ScenarioPart) (x : Command) (n : EndName) → IsLawfulCommand s x → named_end x ≡ Some n → IsEndIn s n
named_by s (commands.Register q c entries limit) n h e = subst (IsEndIn s) (some_same _ n e) (h.0.0, h.0.2)
named_by s (commands.Unregister q c) n h e = subst (IsEndIn s) (some_same _ n e) (h.0, h.2)
named_by s (commands.Connected q c) n h e = subst (IsEndIn s) (some_same _ n e) (h.0, h.2)
named_by s (commands.Closed q c) n h e = subst (IsEndIn s) (some_same _ n e) (h.0, h.2)
named_by s (commands.Send q c payload wait notify) n h e = subst (IsEndIn s) (some_same _ n e) (h.0.0, h.0.2)
named_by s (commands.Take q c wait) n h e = subst (IsEndIn s) (some_same _ n e) (h.0, h.2)
named_by s (commands.Release q c number) n h e = subst (IsEndIn s) (some_same _ n e) (h.0, h.2)
named_by s (commands.Drain q c) n h e = subst (IsEndIn s) (some_same _ n e) (h.0, h.2)
named_by s (commands.Net frame) n h e = absurd (cc)
named_by s (commands.Frames count) n h e = absurd (cc)
named_by s (commands.Deactivate q) n h e = absurd (cc)
named_by s (commands.Activate q) n h e = absurd (cc)
named_by s commands.Leave n h e = absurd (cc)
named_by s (commands.Idle turns) n h e = absurd (cc)
named_by s commands.Offline n h e = absurd (cc)
named_by s commands.Online n h e = absurd (cc)

pub next_formed : (x : Keeping) (i : ℕ) (m : Command) → IsKept x → slice_get (script_in x.part x.clock.boots) i ≡ Some m → IsWellFormed m
next_formed x i m h e = well_formed x.part m (lawful_command x.part x.clock.boots i m h.lawful e)

pub next_named : (x : Keeping) (i : ℕ) (m : Command) (n : EndName) → IsKept x → slice_get (script_in x.part x.clock.boots) i ≡ Some m → named_end m ≡ Some n → (n.partner < length x.partners.list) × (n.channel < CHANNELS)
next_named x i m n h e d =
    let k = named_by x.part m n (lawful_command x.part x.clock.boots i m h.lawful e) d in
    (subst (λ (j : ℕ). n.partner < j) (sym h.count) k.0, k.1)

-- what holds of all partners of what is kept
pub numbered : (x : Keeping) → IsKept x → AreNumbered x.partners
numbered x h = λ q l. (h.standing q (subst (λ (n : ℕ). q < n) h.count l)).partner

countable_at : (e : End) → IsEndCounted (2 ^ 63) e → IsCountable e
countable_at e h = record { put = omega (arith, h.put); taken = omega (arith, h.taken); epoch = omega (arith, h.epochs); asked = omega (arith, h.closed_asked) }

pub countable : (x : Keeping) (q c : ℕ) → AreCounted (2 ^ 63) (state_of x) → IsCountable (channel_of (partner_at x.partners.list q) c).end
countable x q c h = subst IsCountable (sym (end_is x q c)) (countable_at (end_of (state_of x) q c) ((h.peers q).ends c))

-- what the definitions say of the beginning of a command
peers_by : (st : State) (m : Command) → peers_wanted (Some m) (with_aim (aim_by st end_begun m (named_end m)) st).peers ≡ peers_begun m (named_end m) st.peers
peers_by st (commands.Register q c entries limit) = refl
peers_by st (commands.Unregister q c) = refl
peers_by st (commands.Connected q c) = refl
peers_by st (commands.Closed q c) = refl
peers_by st (commands.Send q c payload wait notify) = refl
peers_by st (commands.Take q c wait) = refl
peers_by st (commands.Release q c number) = refl
peers_by st (commands.Drain q c) = refl
peers_by st (commands.Net frame) = refl
peers_by st (commands.Frames count) = refl
peers_by st (commands.Deactivate q) = refl
peers_by st (commands.Activate q) = refl
peers_by st commands.Leave = refl
peers_by st (commands.Idle turns) = refl
peers_by st commands.Offline = refl
peers_by st commands.Online = refl

abbrev pub Noting : Type 0
Noting = ℕ → ℕ → List Note

notes_by : (st : State) (m : Command) (o : Option EndName) → ◌≡◌ {A = Noting} (λ q c. noted_aim (aim_by st end_begun m o) q c) (notes_begun m o st.peers)
notes_by st m None = refl
notes_by st m (Some n) = refl

begun_peers : (s : ScenarioPart) (st : State) (m : Command) → upcoming s st ≡ Some m → (after_act s st Begun).peers ≡ peers_begun m (named_end m) st.peers
begun_peers s st m h = ap (λ (o : Option Command). peers_wanted o (with_aim (aim_of st end_begun o) st).peers) h ∙ peers_by st m

begun_notes : (s : ScenarioPart) (st : State) (m : Command) → upcoming s st ≡ Some m → ◌≡◌ {A = Noting} (noted_act s st Begun) (notes_begun m (named_end m) st.peers)
begun_notes s st m h = ap {B = Noting} (λ (o : Option Command) (q c : ℕ). noted_aim (aim_of st end_begun o) q c) h ∙ notes_by st m (named_end m)

pub begun_acts : (x : Keeping) (m : Command) (ps : Partners) (sc : Script) → IsKept x → CanBegin x → upcoming x.part (state_of x) ≡ Some m → sc ≡ script_acted Begun x.clock.turns x.script
    → Becomes 1 x.partners (peers_begun m (named_end m) (map peer_seen x.partners.list)) (notes_begun m (named_end m) (map peer_seen x.partners.list)) ps
    → Acts x (record x { partners = ps; script = sc }) (Begun ∷ [])
begun_acts x m ps sc h can up e b =
    let s = x.part in
    let st = state_of x in
    once 1 x Begun ps sc h (ap life_seen can.up, (can.doing, get_below (script_in s st.clock.boots) x.script.begun m up)) e
    (subst (λ (peers : List Peer). Becomes 1 x.partners peers (noted_act s st Begun) ps) (sym (begun_peers s st m up))
    (subst (λ (notes : Noting). Becomes 1 x.partners (peers_begun m (named_end m) st.peers) notes ps) (sym (begun_notes s st m up)) b))

-- where none can be begun
pub cannot : (x : Keeping) → (CanBegin x → ⊥) → MayAct x.part (state_of x) Begun → ⊥
cannot x h may = h (record { up = up_of x.life may.0; doing = may.1.0 })

pub none_left : (x : Keeping) → upcoming x.part (state_of x) ≡ None → MayAct x.part (state_of x) Begun → ⊥
none_left x h may = get_none (script_in x.part x.clock.boots) x.script.begun h may.1.1

pub next_is : (x : Keeping) (m : Command) (boot place : ℕ) → Some m ≡ slice_get (script_in x.part boot) place → boot ≡ x.clock.boots → place ≡ x.script.begun → upcoming x.part (state_of x) ≡ Some m
next_is x m boot place h b p = sym (h ∙ ap (λ (n : ℕ). slice_get (script_in x.part n) place) b ∙ ap (slice_get (script_in x.part x.clock.boots)) p)
