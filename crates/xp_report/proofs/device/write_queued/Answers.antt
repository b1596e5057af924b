use Rattle.std.proofs.Common.{refl, string_bytes, codes}
use Rattle.xp_report.specs.Device.{partners_text, queued_text}
use Rattle.xp_report.proofs.Texts.{joined}
use Rattle.xp_report.proofs.device.write_queued.Goals as goal

pub returns : goal.returns
unfolding queued_text
returns c =
    joined c.write_partners.result (string_bytes c.write_partners.new.out) (string_bytes c.push_str.new.self) (string_bytes c.args.out.now)
    (codes "queued ") (partners_text c.args.to) (queued_text c.args.to)
    c.in_ok-push_str.ensures.bytes c.write_partners.ensures refl
