use Rattle.std.proofs.Common.{rules, ◌≡◌, ◌<◌, length, slice_get, Some, ap, arith}
use Rattle.{xbar_moves.specs.Exchange.{Exchange, OfPlan}, xbar_core.proofs.{Kept.few_held, MarkerSteps.marker_read}}
use Rattle.xbar_core.proofs.exchange.Exchange.marker.Goals as goal

pub returns-clause-few : goal.returns-clause-few
returns-clause-few c =
    let e : Exchange = record { words = c.self.inside.words.items; markers = c.self.inside.markers.items; records = c.self.inside.records.items } in
    let within : c.args.marker < length e.markers = omega (arith, c.requires, ap (λ (o : OfPlan). length o.exchange.markers) c.self.view_is) in
    let there : slice_get e.markers c.args.marker ≡ Some c.index.result.now = marker_read e.markers _ _ within (search rules) in
    few_held c.self.inside.plan.now c.index.result.now.work (c.self.invariant.0.valid c.args.marker c.index.result.now there)
