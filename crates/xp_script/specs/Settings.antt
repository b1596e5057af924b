-- What single settings say: the minor version of a partition, and the load that fails.
use Rattle.std.specs.Prelude.{ℕ, Bool, ◌&&◌, ◌||◌, nat_eq, if◌then◌else◌, List, [], ◌∷◌}
use Rattle.xp_base.specs.declared.step.CopyMark.{CopyMark}
use Rattle.xp_base.specs.declared.step.CopyKind.{CopyKind}
use Rattle.xp_base.specs.declared.step.CopyKind.TheVariants.{Page, Beat, Record, Args, Counters, Get, Entries, Buffer}
use Rattle.xp_base.specs.declared.layout.TheConstants.{FIRST_MINOR}
use Rattle.xp_script.specs.declared.setting.Minor.{Minor}
use Rattle.xp_script.specs.declared.setting.Warm.{Warm}
use Rattle.xp_script.specs.declared.setting.Fault.{Fault}

-- the minor version of p: that of the first line that names it, or else 1
abbrev pub minor_of : ℕ → List Minor → ℕ
minor_of p [] = FIRST_MINOR
minor_of p (m ∷ ms) = if nat_eq m.part p then m.version else minor_of p ms

-- the two ends of a line are these partitions, in either order, and it is of this channel
abbrev pub joins : ℕ → ℕ → ℕ → Warm → Bool
joins p q c w =
    ((nat_eq w.first p && nat_eq w.second q) || (nat_eq w.first q && nat_eq w.second p))
    && nat_eq w.channel c

-- kinds of copies as numbers, by which they are compared
abbrev pub kind_number : CopyKind → ℕ
kind_number Page = 0
kind_number Beat = 1
kind_number Record = 2
kind_number Args = 3
kind_number Counters = 4
kind_number Get = 5
kind_number Entries = 6
kind_number Buffer = 7

-- the load of this mark is the one that the line says
abbrev pub names : CopyMark → Fault → Bool
names mark f =
    nat_eq (kind_number f.kind) (kind_number mark.kind)
    && (nat_eq f.copy mark.number && nat_eq f.load mark.word)
