-- What a look shows, with the stamp of the partner's boot.
use Rattle.std.specs.Prelude.{ℕ, List, slice_index}
use Rattle.xp_protocol.specs.declared.contact.Look.{Look}
use Rattle.xp_protocol.specs.declared.contact.Look.TheVariants.{Unseen, Good, Absent, BadVersion}
use Rattle.xp_protocol.specs.Peering.{judged}
use Rattle.xp_discover.specs.declared.look.LookAnswer.{LookAnswer}
use Rattle.xp_discover.specs.declared.look.LookAnswer.TheVariants as answers

abbrev pub look_answered : Look → ℕ → LookAnswer
look_answered Unseen stamp = answers.Absent
look_answered Absent stamp = answers.Absent
look_answered (BadVersion word) stamp = answers.BadVersion word
look_answered (Good version) stamp = answers.Good stamp version

-- the answer of a look by its five words, the last of which is the stamp
abbrev pub look_answer : List ℕ → LookAnswer
look_answer words = look_answered (judged words) (slice_index words 4)
