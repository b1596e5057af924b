-- The items of a chain, whose every link has all that was pushed before, and the item pushed last.
use Rattle.std.specs.Prelude.{List, [], ◌∷◌, ◌++◌}
use Rattle.xp_ghost_list.specs.declared.Link.{Link}
use Rattle.xp_ghost_list.specs.declared.Link.TheVariants.{Empty, Pushed}

abbrev pub items_of : {T : Type 0} → Link T → List T
items_of Empty = []
items_of (Pushed before item) = before.value ++ item.value ∷ []
