use Rattle.std.proofs.Common.{◌<◌, length, sym, ◌∙◌, ap, subst, arith}
use Rattle.xbar_moves.{specs.{Exchange.{Exchange, OfPlan}, Moves.{event_at_step, event_by, after_step}}, proofs.Stepping.event_there}
use Rattle.xbar_core.specs.Standing.{HasRoom, IsExchange}
use Rattle.xbar_core.proofs.{WaitingMarkers.waits_among, Kept.{kept_stepped, room_stepped}, MarkerSteps.{marker_read, step_whole}}
use Rattle.xbar_core.proofs.exchange.Exchange.step.Goals as goal

pub advance-answer-requires-clause-room : goal.advance-answer-requires-clause-room
advance-answer-requires-clause-room c =
    let within : c.args.marker < length c.self.inside.markers.items = omega (arith, ap (λ (o : OfPlan). length o.exchange.markers) c.self.view_is) in
    let there = marker_read c.self.inside.markers.items c.args.marker c.index_mut-own.result.now within c.index_mut-own.ensures.value in
    let among = waits_among c.self.inside.markers.items c.args.marker c.index_mut-own.result.now there in
    omega (arith, among, c.self.invariant.1)

pub invariant_of-self : goal.invariant_of-self
invariant_of-self c =
    let plan = c.self.inside.plan.now in
    let k = c.args.marker in
    let e : Exchange = record { words = c.self.inside.words.items; markers = c.self.inside.markers.items; records = c.self.inside.records.items } in
    let within : k < length e.markers = omega (arith, ap (λ (o : OfPlan). length o.exchange.markers) c.self.view_is) in
    let there = marker_read e.markers k c.index_mut-own.result.now within c.index_mut-own.ensures.value in
    let is =
    sym (step_whole plan e k c.self.inside.words.len _ _ _ _ c.as_mut_slice-words.ensures.value c.self.inside.words.ok.0 c.advance-answer.auto.words
    (c.advance-answer.ensures.step e.markers there)) in
    let room : HasRoom (after_step plan k e) c.advance-answer.new.records.cap =
    omega (arith, room_stepped plan e k c.self.inside.records.cap c.self.invariant.1, c.advance-answer.ensures.room) in (
      subst (IsExchange plan) is (kept_stepped plan c.self.invariant.2 e k c.self.invariant.0),
      subst (λ (x : Exchange). HasRoom x c.advance-answer.new.records.cap) is room,
      c.self.invariant.2,
    )

pub returns-clause-step : goal.returns-clause-step
returns-clause-step c =
    let plan = c.self.inside.plan.now in
    let k = c.args.marker in
    let e : Exchange = record { words = c.self.inside.words.items; markers = c.self.inside.markers.items; records = c.self.inside.records.items } in
    let within : k < length e.markers = omega (arith, ap (λ (o : OfPlan). length o.exchange.markers) c.self.view_is) in
    let there = marker_read e.markers k c.index_mut-own.result.now within c.index_mut-own.ensures.value in
    let is =
    step_whole plan e k c.self.inside.words.len _ _ _ _ c.as_mut_slice-words.ensures.value c.self.inside.words.ok.0 c.advance-answer.auto.words
    (c.advance-answer.ensures.step e.markers there) in
    ap (λ (x : Exchange). record { plan = plan; exchange = x }) is
    ∙ ap (λ (o : OfPlan). record { plan = o.plan; exchange = after_step o.plan k o.exchange }) c.self.view_is

pub returns-clause-event : goal.returns-clause-event
returns-clause-event c =
    let plan = c.self.inside.plan.now in
    let k = c.args.marker in
    let e : Exchange = record { words = c.self.inside.words.items; markers = c.self.inside.markers.items; records = c.self.inside.records.items } in
    let within : k < length e.markers = omega (arith, ap (λ (o : OfPlan). length o.exchange.markers) c.self.view_is) in
    let m = c.index_mut-own.result.now in
    let there = marker_read e.markers k m within c.index_mut-own.ensures.value in
    c.event.ensures plan c.as_mut_slice-words.result.now m.work c.next_step-step.ensures c.advance-answer.ensures.answer
    ∙ ap (λ words. event_by plan k words m.work) c.as_mut_slice-words.ensures.value ∙ event_there plan e k m there
    ∙ ap (λ (o : OfPlan). event_at_step o.plan k o.exchange) c.self.view_is
