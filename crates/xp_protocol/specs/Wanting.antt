-- A step as an end wants it: its copy has no number yet, which is 0. The step of the partition puts
-- the partition's number of the copy in.
use Rattle.std.specs.Prelude.{ℕ, if◌then◌else◌, Option, Some, None}
use Rattle.xp_base.specs.declared.step.CopyMark.{CopyMark}
use Rattle.xp_base.specs.declared.step.Wanted.{Wanted}
use Rattle.xp_base.specs.Places.{index_of}
use Rattle.xp_protocol.specs.Effects.{Copied, Row}

abbrev pub mark_with : ℕ → Option Copied → Option CopyMark
mark_with number None = None
mark_with number (Some x) = Some (record { kind = x.kind; number = number; word = x.word })

abbrev pub wanted_at : ℕ → ℕ → Row → Wanted
wanted_at own partner x =
    record {
      op = record {
        owner = if x.own then own else partner;
        index = index_of x.place;
        kind = x.kind;
      };
      mark = mark_with 0 x.copy;
    }
