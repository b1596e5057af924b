-- Acts, one after the other.
use Rattle.std.proofs.Common.{◌≡◌, ℕ, ◌<◌, List, [], ◌∷◌, ◌++◌, refl, ap, sym, ◌∙◌, subst, append_assoc}
use Rattle.std.specs.List.{AllByRecursion}
use Rattle.xp_base.specs.declared.layout.TheConstants.{CHANNELS}
use Rattle.xp_base.specs.History.{Act}
use Rattle.xp_script.specs.declared.part.ScenarioPart.{ScenarioPart}
use Rattle.xp_protocol.specs.Effects.{Note, with_notes, with_note}
use Rattle.xp_protocol.specs.Records.{Recorded}
use Rattle.xp_protocol.specs.State.{State}
use Rattle.xp_protocol.specs.Acts.{after_act, after_acts, noted_act, MayActs}
use Rattle.xp_protocol.specs.Logged.{noted_acts}
use Rattle.xp_partition.specs.declared.keeping.Keeping.{Keeping}
use Rattle.xp_partition.specs.Keeping.{state_of, records_at, IsKept}
use Rattle.xp_acts.specs.Acts.{Acts, Gives, IsNotice}

may_then : (s : ScenarioPart) (st : State) (xs ys : List Act) → MayActs s st xs → MayActs s (after_acts s st xs) ys → MayActs s st (xs ++ ys)
may_then s st [] ys a b = b
may_then s st (x ∷ xs) ys a b = (a.0, may_then s (after_act s st x) xs ys a.1 b)

after_then : (s : ScenarioPart) (st : State) (xs ys : List Act) → after_acts s st (xs ++ ys) ≡ after_acts s (after_acts s st xs) ys
after_then s st [] ys = refl
after_then s st (x ∷ xs) ys = after_then s (after_act s st x) xs ys

noted_then : (s : ScenarioPart) (st : State) (xs ys : List Act) (q c : ℕ) → noted_acts s st (xs ++ ys) q c ≡ noted_acts s st xs q c ++ noted_acts s (after_acts s st xs) ys q c
noted_then s st [] ys q c = refl
noted_then s st (x ∷ xs) ys q c =
    ap (λ (notes : List Note). noted_act s st x q c ++ notes) (noted_then s (after_act s st x) xs ys q c)
    ∙ sym (append_assoc (noted_act s st x q c) (noted_acts s (after_act s st x) xs q c) (noted_acts s (after_acts s (after_act s st x) xs) ys q c))

recorded_then : (q c : ℕ) (xs ys : List Note) (rs : List Recorded) → with_notes q c (xs ++ ys) rs ≡ with_notes q c ys (with_notes q c xs rs)
recorded_then q c [] ys rs = refl
recorded_then q c (x ∷ xs) ys rs = recorded_then q c xs ys (with_note q c x rs)

pub no_acts : (x : Keeping) → IsKept x → Acts x x []
no_acts x h = record { may = tt; state = refl; records = λ q c l k. refl; part = refl; kept = h }

-- by the part and the state that lie between
then_by : (x y z : Keeping) (xs ys : List Act) (s : ScenarioPart) (st : State) → y.part ≡ s → state_of y ≡ st → Acts y z ys
    → (MayActs s st ys) × (state_of z ≡ after_acts s st ys)
    × ((q c : ℕ) → q < s.count → c < CHANNELS → records_at z q c ≡ with_notes q c (noted_acts s st ys q c) (records_at y q c))
then_by x y z xs ys s st e f h =
    subst (λ (u : State). (MayActs s u ys) × (state_of z ≡ after_acts s u ys)
    × ((q c : ℕ) → q < s.count → c < CHANNELS → records_at z q c ≡ with_notes q c (noted_acts s u ys q c) (records_at y q c))) f
    (subst (λ (p : ScenarioPart). (MayActs p (state_of y) ys) × (state_of z ≡ after_acts p (state_of y) ys)
    × ((q c : ℕ) → q < p.count → c < CHANNELS → records_at z q c ≡ with_notes q c (noted_acts p (state_of y) ys q c) (records_at y q c))) e
    (h.may, h.state, h.records))

pub acts_then : (x y z : Keeping) (xs ys : List Act) → Acts x y xs → Acts y z ys → Acts x z (xs ++ ys)
acts_then x y z xs ys a b =
    let s = x.part in
    let st = state_of x in
    let k = then_by x y z xs ys s (after_acts s st xs) a.part a.state b in
    record {
      may = may_then s st xs ys a.may k.0;
      state = k.1 ∙ sym (after_then s st xs ys);
      records = λ q c l m. k.2 q c l m
          ∙ ap (with_notes q c (noted_acts s (after_acts s st xs) ys q c)) (a.records q c l m)
          ∙ sym (recorded_then q c (noted_acts s st xs q c) (noted_acts s (after_acts s st xs) ys q c) (records_at x q c))
          ∙ ap (λ (notes : List Note). with_notes q c notes (records_at x q c)) (sym (noted_then s st xs ys q c));
      part = b.part ∙ a.part;
      kept = b.kept;
    }

-- notices, one after the other
only_then : (xs ys : List Act) → AllByRecursion IsNotice xs → AllByRecursion IsNotice ys → AllByRecursion IsNotice (xs ++ ys)
only_then [] ys a b = b
only_then (x ∷ xs) ys a b = (a.0, only_then xs ys a.1 b)

pub gives_none : (x : Keeping) → IsKept x → Gives x x
gives_none x h = record { notices = []; only = tt; acts = no_acts x h }

pub gives_then : (x y z : Keeping) → Gives x y → Gives y z → Gives x z
gives_then x y z a b = record {
  notices = a.notices ++ b.notices;
  only = only_then a.notices b.notices a.only b.only;
  acts = acts_then x y z a.notices b.notices a.acts b.acts;
}
