-- A taken flag waits for its argument until that is loaded, as long as its partner is met: it isn't
-- handled without it, and an epoch that ends leaves it taken.
use Rattle.std.proofs.Common.{◌≡◌, ℕ, Bool, true, false, ◌||◌, List, [], ◌∷◌, refl, ap, ◌∙◌, inl, inr, ◌⊎◌, Option, Some}
use Rattle.std.specs.Prelude.{IsSome, is_some}
use Rattle.xp_base.specs.declared.link.Kind.{Kind}
use Rattle.xp_base.specs.declared.link.Kind.TheVariants.{CloseRequest, CloseReply, OpenRequest, OpenReply, OpenComplete, MsgRequest}
use Rattle.xp_base.specs.declared.step.Answer.{Answer}
use Rattle.xp_base.specs.History.{Turn}
use Rattle.xp_base.specs.Kinds.{Kinds, has, without, also}
use Rattle.xp_script.specs.declared.part.ScenarioPart.{ScenarioPart}
use Rattle.xp_protocol.specs.declared.contact.Replied.{Replied}
use Rattle.xp_protocol.specs.declared.rule.Argument.{Argument}
use Rattle.xp_protocol.specs.declared.rule.Argument.TheVariants.{Request, Reply, Code}
use Rattle.xp_protocol.specs.declared.rule.LinkRule.{LinkRule}
use Rattle.xp_protocol.specs.declared.rule.LinkRule.TheVariants.{Ring, Pull, Acknowledge, SetFlag, ZeroGet, ZeroPut, StoreArgument, ReadArgument}
use Rattle.xp_protocol.specs.declared.rule.Rule.{Rule}
use Rattle.xp_protocol.specs.declared.rule.Rule.TheVariants.{Link}
use Rattle.xp_protocol.specs.Effects.{Note, BySend, ByPull, Accepted, Sent, Heard, TakeRefused, Released, Drained}
use Rattle.xp_protocol.specs.State.{State, Shake, End, end_of}
use Rattle.xp_protocol.specs.Linking.{hear, down_end, epoch_over, kind_got, end_sent, with_taken, without_argument, link_can, argument_stored, with_argument, kind_of, has_argument}
use Rattle.xp_protocol.specs.Rules.{mark_of, place_for, link_answered}
use Rattle.xp_protocol.specs.Runs.{RunsFrom, after_turn}
use Rattle.xp_windows.specs.Windows.{middle, At, IsRule, Steps, IsMet, MayLoad, SomeTurn}
use Rattle.xp_windows.specs.Visited.{rule_made}
use Rattle.xp_windows.proofs.Held.{Held}
use Rattle.xp_windows.proofs.Places.{first_holds}
use Rattle.xp_windows.proofs.Asked.{steps_by}
use Rattle.xp_windows.proofs.Keeps.{ActsKeep, acts_keep, met_keeps}
use Rattle.xp_windows.proofs.Settles.{SettleKeeps, channel}
use Rattle.xp_windows.proofs.EndFrames.{LinkKeeps, flags_keep, link_keeps}
use Rattle.xp_windows.proofs.Rests.{acts_by}
use Rattle.xp_windows.proofs.Owing.{there}

-- an argument that a taken flag waits for may be loaded: it wasn't, and no close reply was sent
pub record IsAwaited (q c : ℕ) (x : Argument) (st : State) : Type 0 where
  pub met : IsMet q st
  pub contact : IsSome (end_of st q c).shake.meet
  pub taken : has (kind_of x) (end_of st q c).shake.taken ≡ true
  pub missing : has_argument (kind_of x) (end_of st q c).shake ≡ false
  pub unreplied : (end_of st q c).shake.sent.close_reply ≡ false

abbrev Waiting : Argument → Shake → Type 0
Waiting x y = (has (kind_of x) y.taken ≡ true) × (has_argument (kind_of x) y ≡ false)

-- what leaves it: the same flags are taken, with the same arguments
record Even (x y : Shake) : Type 0 where
  taken : y.taken ≡ x.taken
  request : y.request ≡ x.request
  reply : y.reply ≡ x.reply
  code : y.code ≡ x.code

even : (x : Argument) (y z : Shake) → Even y z → Waiting x y → Waiting x z
even Request y z e h = (ap (λ (k : Kinds). k.open_request) e.taken ∙ h.0, ap (λ (o : Option ℕ). is_some o) e.request ∙ h.1)
even Reply y z e h = (ap (λ (k : Kinds). k.open_reply) e.taken ∙ h.0, ap (λ (o : Option Replied). is_some o) e.reply ∙ h.1)
even Code y z e h = (ap (λ (k : Kinds). k.close_request) e.taken ∙ h.0, ap (λ (o : Option ℕ). is_some o) e.code ∙ h.1)

alike : (x : Shake) → Even x x
alike x = record { taken = refl; request = refl; reply = refl; code = refl }

hears : (m : Note) (e : End) → Even e.shake (hear m e).shake
hears (BySend (Accepted number body asks)) e = record { taken = refl; request = refl; reply = refl; code = refl }
hears (BySend (Sent a)) e = alike e.shake
hears (ByPull (Heard get)) e = alike e.shake
hears (ByPull (TakeRefused a)) e = alike e.shake
hears (Released a) e = alike e.shake
hears (Drained a) e = alike e.shake
hears m e = alike e.shake

sends : (j : Kind) (e : End) → Even e.shake (end_sent j e).shake
sends OpenRequest e = record { taken = refl; request = refl; reply = refl; code = refl }
sends OpenReply e = record { taken = refl; request = refl; reply = refl; code = refl }
sends OpenComplete e = record { taken = refl; request = refl; reply = refl; code = refl }
sends CloseRequest e = record { taken = refl; request = refl; reply = refl; code = refl }
sends CloseReply e = record { taken = refl; request = refl; reply = refl; code = refl }
sends MsgRequest e = record { taken = refl; request = refl; reply = refl; code = refl }

stores : (x : Argument) (e : End) → Even e.shake (argument_stored x e).shake
stores Request e = record { taken = refl; request = refl; reply = refl; code = refl }
stores Reply e = record { taken = refl; request = refl; reply = refl; code = refl }
stores Code e = record { taken = refl; request = refl; reply = refl; code = refl }

-- another flag is handled, with its argument
clash : (b : Bool) → b ≡ true → b ≡ false → ⊥
clash true e f = cc
clash false e f = cc

drops : (x : Argument) (j : Kind) (y : Shake) → has_argument j y ≡ true → Waiting x y → Waiting x (without_argument j (record y { taken = without j y.taken }))
drops Request OpenRequest y a h = absurd (clash (is_some y.request) a h.1)
drops Request OpenReply y a h = h
drops Request OpenComplete y a h = h
drops Request CloseRequest y a h = h
drops Request CloseReply y a h = h
drops Request MsgRequest y a h = h
drops Reply OpenRequest y a h = h
drops Reply OpenReply y a h = absurd (clash (is_some y.reply) a h.1)
drops Reply OpenComplete y a h = h
drops Reply CloseRequest y a h = h
drops Reply CloseReply y a h = h
drops Reply MsgRequest y a h = h
drops Code OpenRequest y a h = h
drops Code OpenReply y a h = h
drops Code OpenComplete y a h = h
drops Code CloseRequest y a h = absurd (clash (is_some y.code) a h.1)
drops Code CloseReply y a h = h
drops Code MsgRequest y a h = h

has_same : (j : Kind) (y : Shake) (ks : Kinds) → has_argument j (record y { got = ks }) ≡ has_argument j y
has_same OpenRequest y ks = refl
has_same OpenReply y ks = refl
has_same OpenComplete y ks = refl
has_same CloseRequest y ks = refl
has_same CloseReply y ks = refl
has_same MsgRequest y ks = refl

got_waits : (x : Argument) (j : Kind) (y : Shake) → has_argument j y ≡ true → Waiting x y → Waiting x (without_argument j (record y { got = also j y.got; taken = without j y.taken }))
got_waits x j y a h = drops x j (record y { got = also j y.got }) (has_same j y (also j y.got) ∙ a) (even x y (record y { got = also j y.got }) (record { taken = refl; request = refl; reply = refl; code = refl }) h)

-- more flags are taken
or_first : (a b : Bool) → a ≡ true → (a || b) ≡ true
or_first true b e = refl
or_first false b e = absurd (cc)

takes : (x : Argument) (ks : Kinds) (e : End) → Waiting x e.shake → Waiting x (with_taken ks e).shake
takes Request ks e h = (or_first e.shake.taken.open_request ks.open_request h.0, h.1)
takes Reply ks e h = (or_first e.shake.taken.open_reply ks.open_reply h.0, h.1)
takes Code ks e h = (or_first e.shake.taken.close_request ks.close_request h.0, h.1)

-- another argument is loaded
reads : (x y : Argument) (place w : ℕ) (e : End) → (ReadArgument y ≡ ReadArgument x → ⊥) → Waiting x e.shake → Waiting x (with_argument y place w e).shake
reads Request Request place w e n h = absurd (n refl)
reads Request Reply place w e n h = h
reads Request Code place w e n h = h
reads Reply Request place w e n h = h
reads Reply Reply place w e n h = absurd (n refl)
reads Reply Code place w e n h = h
reads Code Request place w e n h = h
reads Code Reply place w e n h = h
reads Code Code place w e n h = absurd (n refl)

same_read : (x : Argument) (m : LinkRule) → (m ≡ ReadArgument x) ⊎ (m ≡ ReadArgument x → ⊥)
same_read Request (ReadArgument Request) = inl refl
same_read Request (ReadArgument Reply) = inr (λ f. cc)
same_read Request (ReadArgument Code) = inr (λ f. cc)
same_read Reply (ReadArgument Request) = inr (λ f. cc)
same_read Reply (ReadArgument Reply) = inl refl
same_read Reply (ReadArgument Code) = inr (λ f. cc)
same_read Code (ReadArgument Request) = inr (λ f. cc)
same_read Code (ReadArgument Reply) = inr (λ f. cc)
same_read Code (ReadArgument Code) = inl refl
same_read x (Ring m) = inr (λ f. cc)
same_read x (Pull m) = inr (λ f. cc)
same_read x Acknowledge = inr (λ f. cc)
same_read x (SetFlag k) = inr (λ f. cc)
same_read x ZeroGet = inr (λ f. cc)
same_read x ZeroPut = inr (λ f. cc)
same_read x (StoreArgument y) = inr (λ f. cc)

module _ (x : Argument) where
  abbrev Waits : End → Type 0
  Waits e = Waiting x e.shake

  -- what is known of a step at the end: it loads another argument
  abbrev Other : End → LinkRule → Type 0
  Other e m = m ≡ ReadArgument x → ⊥

  settle : SettleKeeps Waits
  settle = record {
    heard = λ m e h. even x e.shake (hear m e).shake (hears m e) h;
    down = λ reason e i h. even x e.shake (down_end reason e).shake (record { taken = refl; request = refl; reply = refl; code = refl }) h;
    over = λ e i h. even x e.shake (epoch_over e).local.shake (record { taken = refl; request = refl; reply = refl; code = refl }) h;
    left = λ j e i a h. drops x j e.shake a h;
    got = λ j e i a h. got_waits x j e.shake a h;
    dropped = λ e h. drops x MsgRequest e.shake refl h;
    owing = λ e h. h;
    sized = λ e size i a h. even x (kind_got OpenRequest e).shake (record (kind_got OpenRequest e).shake { their_size = size }) (record { taken = refl; request = refl; reply = refl; code = refl }) (got_waits x OpenRequest e.shake a h);
  }

  acts : ActsKeep Waits
  acts = acts_by Waits (λ e y a b d h. even x e.shake y.shake (record { taken = ap (λ (z : Shake). z.taken) d; request = ap (λ (z : Shake). z.request) d; reply = ap (λ (z : Shake). z.reply) d; code = ap (λ (z : Shake). z.code) d }) h) (channel Waits settle)

  changed : (e : End) (y : Shake) → Even e.shake y → Waits e → Waits (record e { shake = y })
  changed e y z h = even x e.shake y z h

  keeps : LinkKeeps Other Waits
  keeps = record {
    acts = acts;
    settling = settle;
    taken = λ ks e h. takes x ks e h;
    sent = λ j e can n h. even x e.shake (end_sent j e).shake (sends j e) h;
    told = λ e n h. changed e (record e.shake { owes_message = false }) (record { taken = refl; request = refl; reply = refl; code = refl }) h;
    zeros = λ e n h. changed e (record e.shake { get_zero = true }) (record { taken = refl; request = refl; reply = refl; code = refl }) h;
    zeros_put = λ e n h. changed e (record e.shake { put_zero = true }) (record { taken = refl; request = refl; reply = refl; code = refl }) h;
    stored = λ y e n h. even x e.shake (argument_stored y e).shake (stores y e) h;
    read = λ y place w e n h. reads x y place w e n h;
    acked = λ e n h. changed e (record e.shake { owes_message = true }) (record { taken = refl; request = refl; reply = refl; code = refl }) h;
    rings = λ e y h. h;
    pulls = λ m w e can n h. h;
    failed = λ kind e m n h. h;
  }

-- an argument that is waited for is loaded, or waited for throughout
module _ (s : ScenarioPart) (q c : ℕ) (x : Argument) where
  abbrev Loads : State → Turn → Type 0
  Loads st t = Steps (At q c (IsRule (ReadArgument x))) s st t

  now : (st : State) → MayLoad q c st → Waits x (end_of st q c) → IsAwaited q c x st
  now st h w = record { met = h.met; contact = h.contact; taken = w.0; missing = w.1; unreplied = h.unreplied }

  turn_waits : (st : State) (t : Turn) (ts : List Turn) → RunsFrom s st (t ∷ ts) → Held (MayLoad q c) s st (t ∷ ts) → Waits x (end_of st q c) → Loads st t ⊎ Waits x (end_of (after_turn s st t) q c)
  turn_waits st t ts runs h w =
      met_keeps (Waits x) (flags_keep (Other x) (Waits x) (keeps x)) s q c (Loads st t) (acts x) st t runs.0 h.1.met (there (middle s st t) q c h.1.contact) (first_holds (MayLoad q c) s (after_turn s st t) ts h.2).met steps w
    where
      steps : (r : Rule) (a : Answer) → rule_made s (middle s st t) t ≡ Some r → (m : LinkRule) → r ≡ Link q c m → link_can (end_of (middle s st t) q c) m → Waits x (end_of (middle s st t) q c) → Loads st t ⊎ Waits x (link_answered (mark_of s (middle s st t) (Link q c m)) (place_for s c) (end_of (middle s st t) q c) m a).local
      steps r a e m is can g = by (same_read x m) where
        by : (m ≡ ReadArgument x) ⊎ (m ≡ ReadArgument x → ⊥) → Loads st t ⊎ Waits x (link_answered (mark_of s (middle s st t) (Link q c m)) (place_for s c) (end_of (middle s st t) q c) m a).local
        by (inl i) = inl (steps_by (At q c (IsRule (ReadArgument x))) s st t (Link q c m) (e ∙ ap (λ (y : Rule). Some y) is) (refl, refl, i))
        by (inr n) = inr (link_keeps (Other x) (Waits x) (keeps x) (mark_of s (middle s st t) (Link q c m)) (place_for s c) (end_of (middle s st t) q c) m a can n g)

  pub awaited_on : (st : State) (ts : List Turn) → RunsFrom s st ts → Held (MayLoad q c) s st ts → Waits x (end_of st q c) → SomeTurn Loads s st ts ⊎ Held (IsAwaited q c x) s st ts
  awaited_on st [] runs h w = inr (now st h w)
  awaited_on st (t ∷ ts) runs h w = by (turn_waits st t ts runs h w) (λ y. awaited_on (after_turn s st t) ts runs.1 h.2 y) where
    rest : SomeTurn Loads s (after_turn s st t) ts ⊎ Held (IsAwaited q c x) s (after_turn s st t) ts → SomeTurn Loads s st (t ∷ ts) ⊎ Held (IsAwaited q c x) s st (t ∷ ts)
    rest (inl y) = inl (inr y)
    rest (inr y) = inr (now st h.0 w, now (middle s st t) h.1 (acts_keep (Waits x) s q c (acts x) st t.before w), y)

    by : Loads st t ⊎ Waits x (end_of (after_turn s st t) q c) → (Waits x (end_of (after_turn s st t) q c) → SomeTurn Loads s (after_turn s st t) ts ⊎ Held (IsAwaited q c x) s (after_turn s st t) ts) → SomeTurn Loads s st (t ∷ ts) ⊎ Held (IsAwaited q c x) s st (t ∷ ts)
    by (inl y) later = inl (inl y)
    by (inr y) later = rest (later y)
