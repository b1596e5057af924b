-- What is promised of a window is done before its last turn. So of that turn nothing need be known but
-- the state before it: what holds throughout a window holds after the turns before the last one, too.
use Rattle.std.proofs.Common.{◌≡◌, ◌+◌, ◌<◌, List, [], ◌∷◌, ◌++◌, length, refl, ap, arith, inl, inr}
use Rattle.xp_base.specs.History.{Turn}
use Rattle.xp_script.specs.declared.part.ScenarioPart.{ScenarioPart}
use Rattle.xp_protocol.specs.State.{State}
use Rattle.xp_protocol.specs.Runs.{after_turn}
use Rattle.xp_windows.specs.Windows.{middle, Throughout, SomeTurn, SomeThen, SomeFrom}

-- throughout some turns, and after the last of them
abbrev pub Held : (State → Type 0) → ScenarioPart → State → List Turn → Type 0
Held C s st [] = C st
Held C s st (t ∷ ts) = C st × C (middle s st t) × Held C s (after_turn s st t) ts

-- some turns, and the last one
pub record Ended (ts : List Turn) : Type 0 where
  pub early : List Turn
  pub last : Turn
  pub all : ts ≡ early ++ last ∷ []
  pub long : length ts ≡ length early + 1

pub ended : (ts : List Turn) → 0 < length ts → Ended ts
ended [] some = absurd (omega (arith, some))
ended (t ∷ []) some = record { early = []; last = t; all = refl; long = refl }
ended (t ∷ u ∷ ts) some =
    let x = ended (u ∷ ts) (omega arith) in
    let l = x.long in
    record { early = t ∷ x.early; last = x.last; all = ap (λ (us : List Turn). t ∷ us) x.all; long = omega (arith, l) }

module _ (s : ScenarioPart) where
  pub held : (C : State → Type 0) (st : State) (early : List Turn) (last : Turn) → Throughout C s st (early ++ last ∷ []) → Held C s st early
  held C st [] last h = h.0
  held C st (t ∷ ts) last h = (h.0, h.1, held C (after_turn s st t) ts last h.2)

  module _ (more : List Turn) where
    pub some_still : (E : State → Turn → Type 0) (st : State) (ts : List Turn) → SomeTurn E s st ts → SomeTurn E s st (ts ++ more)
    some_still E st [] h = absurd h
    some_still E st (t ∷ ts) (inl h) = inl h
    some_still E st (t ∷ ts) (inr h) = inr (some_still E (after_turn s st t) ts h)

    pub then_still : (E F : State → Turn → Type 0) (st : State) (ts : List Turn) → SomeThen E F s st ts → SomeThen E F s st (ts ++ more)
    then_still E F st [] h = absurd h
    then_still E F st (t ∷ ts) (inl h) = inl (h.0, some_still F (after_turn s st t) ts h.1)
    then_still E F st (t ∷ ts) (inr h) = inr (then_still E F (after_turn s st t) ts h)

    pub from_still : (E F : State → Turn → Type 0) (st : State) (ts : List Turn) → SomeFrom E F s st ts → SomeFrom E F s st (ts ++ more)
    from_still E F st [] h = absurd h
    from_still E F st (t ∷ ts) (inl h) = inl (h.0, some_still F st (t ∷ ts) h.1)
    from_still E F st (t ∷ ts) (inr h) = inr (from_still E F (after_turn s st t) ts h)
