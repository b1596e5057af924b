-- How the causes of faults print.
use Rattle.std.specs.Prelude.{ℕ, List, codes}
use Rattle.xp_page.specs.declared.grammar.PageCause.{PageCause}
use Rattle.xp_page.specs.declared.grammar.PageCause.TheVariants.{Truncated, Signature, Version, Magic, Mask, FlagBits, Length, Address, Reason, Value}

abbrev pub cause_text : PageCause → List ℕ
cause_text Truncated = codes "truncated"
cause_text Signature = codes "signature"
cause_text Version = codes "version"
cause_text Magic = codes "magic"
cause_text Mask = codes "mask"
cause_text FlagBits = codes "flag-bits"
cause_text Length = codes "length"
cause_text Address = codes "address"
cause_text Reason = codes "reason"
cause_text Value = codes "value"
