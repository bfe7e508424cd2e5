use Rattle.std.proofs.Common.{◌<◌, length, slice_set, sym, ◌∙◌, ap, subst, arith}
use Rattle.{xbar_moves.{specs.{Exchange.{Exchange, OfPlan}, Moves.restarted_at}, proofs.Jobs.restarted_is}, xbar_core.specs.Standing.{HasRoom, IsExchange}}
use Rattle.xbar_core.proofs.{Kept.{kept_anew, room_anew}, MarkerSteps.marker_read}
use Rattle.xbar_core.proofs.exchange.Exchange.restart.Goals as goal

pub invariant_of-self : goal.invariant_of-self
invariant_of-self c =
    let plan = c.self.inside.plan.now in
    let k = c.args.marker in
    let e : Exchange = record { words = c.self.inside.words.items; markers = c.self.inside.markers.items; records = c.self.inside.records.items } in
    let within : k < length e.markers = omega (arith, ap (λ (o : OfPlan). length o.exchange.markers) c.self.view_is) in
    let m = c.index_mut.result.now in
    let there = marker_read e.markers k m within c.index_mut.ensures.value in
    let is = ap (λ after. record e { markers = slice_set e.markers k after }) (c.restart.ensures plan) in (
      subst (IsExchange plan) (sym is) (kept_anew plan e k m c.self.invariant.2 c.self.invariant.0 there),
      subst (λ (x : Exchange). HasRoom x c.self.inside.records.cap) (sym is) (room_anew plan e k c.self.inside.records.cap m there c.self.invariant.1),
      c.self.invariant.2,
    )

pub returns : goal.returns
returns c =
    let plan = c.self.inside.plan.now in
    let k = c.args.marker in
    let e : Exchange = record { words = c.self.inside.words.items; markers = c.self.inside.markers.items; records = c.self.inside.records.items } in
    let within : k < length e.markers = omega (arith, ap (λ (o : OfPlan). length o.exchange.markers) c.self.view_is) in
    let m = c.index_mut.result.now in
    let there = marker_read e.markers k m within c.index_mut.ensures.value in
    ap (λ after. record { plan = plan; exchange = record e { markers = slice_set e.markers k after } }) (c.restart.ensures plan)
    ∙ ap (λ x. record { plan = plan; exchange = x }) (sym (restarted_is e k m there plan))
    ∙ ap (λ (o : OfPlan). record { plan = o.plan; exchange = restarted_at o.plan k o.exchange }) c.self.view_is
