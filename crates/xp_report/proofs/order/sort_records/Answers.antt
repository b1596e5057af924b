use Rattle.std.proofs.Common.{rules}
use Rattle.std.proofs.lemmas.Result.{on_ok_weaker}
use Rattle.std.proofs.lemmas.List.Sorted.{answers_always}
use Rattle.xp_connections.specs.Page.{said_of}
use Rattle.xp_report.specs.Order.{record_cmp}
use Rattle.xp_report.specs.Place.{place_of}
use Rattle.xp_report.proofs.PlaceOrder.{seen_sorted}
use Rattle.xp_report.proofs.order.sort_records.Goals as goal

pub returns-clause-ok : goal.returns-clause-ok
unfolding record_cmp
returns-clause-ok c =
    let keyed = answers_always _ _ _ (λ f a r g h. search rules) in
    on_ok_weaker c.sort_by_key.result
    (λ sorted. seen_sorted (λ r. said_of r.now) c.args.records.now.items c.sort_by_key.new.self.items
    (sorted (λ r. place_of (said_of r.now)) keyed)
    (c.sort_by_key.ensures.stable (λ r. place_of (said_of r.now)) keyed))
    c.sort_by_key.ensures.sorted
