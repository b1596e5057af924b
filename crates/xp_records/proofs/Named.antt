-- Each name stands once among the records of an end.
use Rattle.std.proofs.Common.{◌≡◌, ℕ, zero, suc, true, false, List, [], ◌∷◌, refl, ap, sym, ◌∙◌, subst, Some}
use Rattle.std.specs.Prelude.{slice_get}
use Rattle.std.proofs.lemmas.Bool.{eq-eqb}
use Rattle.xp_base.specs.declared.session.Session.{Session}
use Rattle.xp_base.specs.Memory.{Memory}
use Rattle.xp_base.specs.History.{Event, turns_of}
use Rattle.xp_script.specs.declared.scenario.Scenario.{Scenario}
use Rattle.xp_script.specs.Lawful.{IsLawful}
use Rattle.xp_script.specs.Parts.{part_of}
use Rattle.xp_protocol.specs.Records.{Recorded}
use Rattle.xp_protocol.specs.Reached.{ReachedWords}
use Rattle.xp_protocol.specs.Promised.{Name, name_of, is_name, is_session, records_of}
use Rattle.xp_meetings.proofs.Parts.{part_start, from_books}
use Rattle.xp_promises.proofs.Books.{names, Missing, Apart}
use Rattle.xp_promises.proofs.Before.{part_at}
use Rattle.xp_promises.proofs.Reuses.{whole_both}
use Rattle.xp_records.specs.Names.{NamesOnce}

own_session : (u : Session) → is_session u u ≡ true
own_session u = rw (eq-eqb u.stamp u.stamp refl, eq-eqb u.count u.count refl) refl

own_name : (k : Name) → is_name k k ≡ true
own_name k = rw (eq-eqb k.epoch k.epoch refl, own_session k.own, own_session k.theirs) refl

named_twice : (k : Name) (rs : List Recorded) (i : ℕ) (r : Recorded) → Missing k (names rs) → slice_get rs i ≡ Some r → name_of r ≡ k → ⊥
named_twice k [] i r m e n = absurd (cc)
named_twice k (z ∷ rs) zero r m e n =
    let same : z ≡ r = cc in
    let f : is_name (name_of z) k ≡ true = ap (λ (x : Recorded). is_name (name_of x) k) same ∙ ap (λ (j : Name). is_name j k) n ∙ own_name k in
    let g = m.0 in
    absurd (cc)
named_twice k (z ∷ rs) (suc i) r m e n = named_twice k rs i r m.1 e n

once : (rs : List Recorded) → Apart (names rs) → (i j : ℕ) (r x : Recorded) → slice_get rs i ≡ Some r → slice_get rs j ≡ Some x → name_of r ≡ name_of x → i ≡ j
once [] a i j r x e f n = absurd (cc)
once (z ∷ rs) a zero zero r x e f n = refl
once (z ∷ rs) a zero (suc j) r x e f n = absurd (let same : z ≡ r = cc in named_twice (name_of z) rs j x a.0 f (sym n ∙ ap (λ (y : Recorded). name_of y) (sym same)))
once (z ∷ rs) a (suc i) zero r x e f n = absurd (let same : z ≡ x = cc in named_twice (name_of z) rs i r a.0 e (n ∙ ap (λ (y : Recorded). name_of y) (sym same)))
once (z ∷ rs) a (suc i) (suc j) r x e f n = ap (λ (k : ℕ). suc k) (once rs a.1 i j r x e f n)

pub names_once : (s : Scenario) → IsLawful s → (h : List Event) (m : Memory) → ReachedWords s h m → NamesOnce s h
names_once s law h m reached p q c l i j r x e f n =
    let good = (whole_both s law h m reached).2.good in
    let books = from_books (part_of s p) (part_start (part_of s p)) (turns_of p h) q c in
    once (records_of s h p q c) (subst (λ (rs : List Recorded). Apart (names rs)) books (good.fine p q c l).apart) i j r x e f n
