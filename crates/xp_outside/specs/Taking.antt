-- What a taker becomes by the bytes that it takes.
use Rattle.std.specs.Prelude.{◌≡◌, ℕ, List, ◌++◌}
use Rattle.std.specs.declared.alloc.Global.{Global}
use Rattle.std.specs.declared.vec.Vec.{Vec}

-- these bytes stand behind those that were there
abbrev pub Grows : Vec ℕ Global → List ℕ → Vec ℕ Global → Type 0
Grows old bytes new = new.items ≡ old.items ++ bytes
