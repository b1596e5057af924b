use Rattle.std.proofs.Common.{ℕ, ◌<◌, ◌∙◌, sym, ap, subst, refl, set, Bool}
use Rattle.std.specs.Prelude.{is_some}
use Rattle.xp_engage.specs.Partner.{Partner as Standing, warm_partner}
use Rattle.xp_partner.specs.Partner.{Partner, each_roomed, rooms_of}
use Rattle.xp_partner.specs.PartnerInside.{partner_seen}
use Rattle.xp_partner.specs.Opening.{first_met, warm_channel, warmed, warmed_by}
use Rattle.xp_partner.proofs.Making.{sessions_some}
use Rattle.xp_partner.proofs.Naming.{named_as}
use Rattle.xp_partner.proofs.Opening.{warm_as, warm_named, warm_rooms}
use Rattle.xp_partner.proofs.partner.Partner.warm.Goals as goal

pub invariant_of-self : goal.invariant_of-self
invariant_of-self c =
    let s = c.warm-standing.result in
    let a = c.in_ok-end.end in
    let xs = c.self.inside.ends in
    let ys = c.meet_first.new.ends in
    let met = c.is_some-is_met.result in
    let own = ap (λ (t : Standing). t.own) c.warm-standing.ensures in
    let partner = ap (λ (t : Standing). t.partner) c.warm-standing.ensures in
    warm_named s met c.args.channel c.get.result c.args.size xs ys a c.get.ensures.value (subst (λ (i : ℕ). i < 4) (sym c.get.ensures.value) c.get.ensures.range)
    (named_as c.self.inside.standing s xs (own ∙ c.own-own.ensures) (partner ∙ c.partner-partner.ensures) c.self.invariant)
    (c.meet_first.ensures ∙ ap (λ (b : Bool). each_roomed (first_met met b xs) ys) c.both_new-both_new.ensures)
    (warm_as s c.own-own.result c.partner-partner.result c.both_new-both_new.result c.args.channel c.args.size a own partner c.both_new-both_new.ensures c.in_ok-end.ensures)

pub returns-clause-ok : goal.returns-clause-ok
returns-clause-ok c =
    let x = partner_seen c.self.inside in
    let s = c.warm-standing.result in
    let a = c.in_ok-end.end in
    let ys = c.meet_first.new.ends in
    let met = c.is_some-is_met.result in
    let ch = c.args.channel in
    let size = c.args.size in
    let z = record x { standing = s; channels = set ys c.get.result a } in
    let own = ap (λ (t : Standing). t.own) c.warm-standing.ensures in
    let partner = ap (λ (t : Standing). t.partner) c.warm-standing.ensures in
    warm_rooms x z s met ch c.get.result size ys a c.get.ensures.value (subst (λ (i : ℕ). i < 4) (sym c.get.ensures.value) c.get.ensures.range) c.self.invariant.four
    (c.meet_first.ensures ∙ ap (λ (b : Bool). each_roomed (first_met met b x.channels) ys) c.both_new-both_new.ensures)
    (warm_as s c.own-own.result c.partner-partner.result c.both_new-both_new.result ch size a own partner c.both_new-both_new.ensures c.in_ok-end.ensures)
    refl
    ∙ ap (λ (b : Bool). rooms_of (record x { standing = s; channels = set (first_met b s.both_new x.channels) ch (warm_channel s.own s.partner ch size s.both_new) }) z) (c.is_some-is_met.ensures ∙ ap (λ o. is_some o) c.contact-2.ensures ∙ sessions_some x.standing.contact)
    ∙ ap (λ (t : Standing). rooms_of (warmed_by t ch size x) z)
    (c.warm-standing.ensures
    ∙ ap (λ (n : ℕ). warm_partner n c.partner-partner.result c.version-version.result c.args.theirs c.args.window c.check-check.result) c.own-own.ensures
    ∙ ap (λ (n : ℕ). warm_partner x.standing.own n c.version-version.result c.args.theirs c.args.window c.check-check.result) c.partner-partner.ensures
    ∙ ap (λ (n : ℕ). warm_partner x.standing.own x.standing.partner n c.args.theirs c.args.window c.check-check.result) c.version-version.ensures
    ∙ ap (λ (n : ℕ). warm_partner x.standing.own x.standing.partner x.standing.version c.args.theirs c.args.window n) c.check-check.ensures)
    ∙ ap (λ (v : Partner). rooms_of (warmed c.args.theirs c.args.window ch size v) z) c.self.view_is
