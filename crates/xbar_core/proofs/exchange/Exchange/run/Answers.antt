use Rattle.std.proofs.Common.{◌<◌, length, sym, ◌∙◌, ap, subst, arith}
use Rattle.{xbar_moves.{specs.{Exchange.{Exchange, OfPlan}, Moves.steps}, proofs.Keeping.steps_keep}, xbar_core.specs.Standing.{HasRoom, IsExchange}}
use Rattle.xbar_core.proofs.{Kept.{kept_stepped, room_stepped}, MarkerSteps.{marker_read, steps_whole}}
use Rattle.xbar_core.proofs.exchange.Exchange.run.Goals as goal

pub invariant_of-self : goal.invariant_of-self
invariant_of-self c =
    let plan = c.self.inside.plan.now in
    let k = c.args.marker in
    let room = c.self.inside.records.cap in
    let e : Exchange = record { words = c.self.inside.words.items; markers = c.self.inside.markers.items; records = c.self.inside.records.items } in
    let within : k < length e.markers = omega (arith, ap (λ (o : OfPlan). length o.exchange.markers) c.self.view_is) in
    let there = marker_read e.markers k c.index_mut.result.now within c.index_mut.ensures.value in
    let is =
    sym (steps_whole plan e k c.run.result c.self.inside.words.len _ _ _ c.as_mut_slice-words.ensures.value c.self.inside.words.ok.0 c.run.auto.words
    (c.run.ensures.steps e.markers e.records there)) in (
      subst (IsExchange plan) is (steps_keep plan (IsExchange plan) k (λ x was. kept_stepped plan c.self.invariant.2 x k was) c.run.result e
          c.self.invariant.0),
      subst (λ (x : Exchange). HasRoom x room) is (steps_keep plan (λ (x : Exchange). HasRoom x room) k (λ x was. room_stepped plan x k room was) c.run.result e
          c.self.invariant.1),
      c.self.invariant.2,
    )

pub returns-clause-steps : goal.returns-clause-steps
returns-clause-steps c =
    let plan = c.self.inside.plan.now in
    let k = c.args.marker in
    let e : Exchange = record { words = c.self.inside.words.items; markers = c.self.inside.markers.items; records = c.self.inside.records.items } in
    let within : k < length e.markers = omega (arith, ap (λ (o : OfPlan). length o.exchange.markers) c.self.view_is) in
    let there = marker_read e.markers k c.index_mut.result.now within c.index_mut.ensures.value in
    let is =
    steps_whole plan e k c.run.result c.self.inside.words.len _ _ _ c.as_mut_slice-words.ensures.value c.self.inside.words.ok.0 c.run.auto.words
    (c.run.ensures.steps e.markers e.records there) in
    ap (λ (x : Exchange). record { plan = plan; exchange = x }) is
    ∙ ap (λ (o : OfPlan). record { plan = o.plan; exchange = steps o.plan k c.run.result o.exchange }) c.self.view_is
