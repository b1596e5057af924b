-- The words by which causes are told.
use Rattle.std.specs.Prelude.{ℕ, List, codes}
use Rattle.xp_forms.specs.declared.fault.LineCause.{LineCause}
use Rattle.xp_forms.specs.declared.fault.LineCause.TheVariants as causes

abbrev pub cause_text : LineCause → List ℕ
cause_text causes.Header = codes "header"
cause_text causes.Word = codes "word"
cause_text causes.Missing = codes "missing"
cause_text causes.Extra = codes "extra"
cause_text causes.Number = codes "number"
cause_text causes.Payload = codes "payload"
cause_text causes.Partition = codes "partition"
cause_text causes.Channel = codes "channel"
cause_text causes.Twice = codes "twice"
cause_text causes.Order = codes "order"
cause_text causes.PokeInRun = codes "poke-in-run"
