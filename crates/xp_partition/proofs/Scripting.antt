-- The script of a boot, where there is one or not.
use Rattle.std.proofs.Common.{◌≡◌, ℕ, List, [], Some, None}
use Rattle.std.specs.Prelude.{slice_get, slice_index_or}
use Rattle.std.proofs.lemmas.Option.{get_or_from_slice_get}
use Rattle.xp_script.specs.declared.command.Command.{Command}
use Rattle.xp_partition.proofs.Lists.{past_get}

pub script_some : (xs : List (List Command)) (i : ℕ) (x : List Command) → slice_get xs i ≡ Some x → slice_index_or xs i [] ≡ x
script_some xs i x h = get_or_from_slice_get xs i x [] h

pub script_none : (xs : List (List Command)) (i : ℕ) → slice_get xs i ≡ None → slice_index_or xs i [] ≡ []
script_none xs i h = past_get xs i [] h

pub ruleset commands = (script_some, script_none)
