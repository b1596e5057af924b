use Rattle.std.proofs.Common.{refl, string_bytes, codes}
use Rattle.std.specs.Fmt.{decimal}
use Rattle.xp_base.specs.Show.{◌⧺◌, payload_text}
use Rattle.xp_report.specs.Answers.{taken_text}
use Rattle.xp_report.proofs.Texts.{joined}
use Rattle.xp_report.proofs.answers.write_taken.Goals as goal

pub returns : goal.returns
unfolding taken_text
returns c =
    joined c.write_payload.result (string_bytes c.write_payload.new.out) (string_bytes c.write.new.self) (string_bytes c.args.out.now)
    (codes "ok " ⧺ decimal c.args.number ⧺ codes " ") (payload_text c.args.body.now) (taken_text c.args.number c.args.body.now)
    c.in_ok-write.ensures.bytes (rw c.bytes.ensures.value at c.write_payload.ensures) refl
