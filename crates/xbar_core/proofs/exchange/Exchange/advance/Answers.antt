use Rattle.std.proofs.Common.{◌<◌, length, sym, ◌∙◌, ap, subst, arith}
use Rattle.{xbar_moves.specs.{Exchange.{Exchange, OfPlan}, Moves.after_step}, xbar_core.specs.Standing.{HasRoom, IsExchange}}
use Rattle.xbar_core.proofs.{WaitingMarkers.waits_among, Kept.{kept_stepped, room_stepped}, MarkerSteps.{marker_read, step_whole}}
use Rattle.xbar_core.proofs.exchange.Exchange.advance.Goals as goal

pub advance-requires-clause-room : goal.advance-requires-clause-room
advance-requires-clause-room c =
    let within : c.args.marker < length c.self.inside.markers.items = omega (arith, ap (λ (o : OfPlan). length o.exchange.markers) c.self.view_is) in
    let there = marker_read c.self.inside.markers.items c.args.marker c.index_mut.result.now within c.index_mut.ensures.value in
    let among = waits_among c.self.inside.markers.items c.args.marker c.index_mut.result.now there in
    omega (arith, among, c.self.invariant.1)

pub invariant_of-self : goal.invariant_of-self
invariant_of-self c =
    let plan = c.self.inside.plan.now in
    let k = c.args.marker in
    let e : Exchange = record { words = c.self.inside.words.items; markers = c.self.inside.markers.items; records = c.self.inside.records.items } in
    let within : k < length e.markers = omega (arith, ap (λ (o : OfPlan). length o.exchange.markers) c.self.view_is) in
    let there = marker_read e.markers k c.index_mut.result.now within c.index_mut.ensures.value in
    let is =
    sym (step_whole plan e k c.self.inside.words.len _ _ _ _ c.as_mut_slice.ensures.value c.self.inside.words.ok.0 c.advance.auto.words
    (c.advance.ensures.step e.markers there)) in
    let room : HasRoom (after_step plan k e) c.advance.new.records.cap =
    omega (arith, room_stepped plan e k c.self.inside.records.cap c.self.invariant.1, c.advance.ensures.room) in (
      subst (IsExchange plan) is (kept_stepped plan c.self.invariant.2 e k c.self.invariant.0),
      subst (λ (x : Exchange). HasRoom x c.advance.new.records.cap) is room,
      c.self.invariant.2,
    )

pub returns : goal.returns
returns c =
    let plan = c.self.inside.plan.now in
    let k = c.args.marker in
    let e : Exchange = record { words = c.self.inside.words.items; markers = c.self.inside.markers.items; records = c.self.inside.records.items } in
    let within : k < length e.markers = omega (arith, ap (λ (o : OfPlan). length o.exchange.markers) c.self.view_is) in
    let there = marker_read e.markers k c.index_mut.result.now within c.index_mut.ensures.value in
    let is =
    step_whole plan e k c.self.inside.words.len _ _ _ _ c.as_mut_slice.ensures.value c.self.inside.words.ok.0 c.advance.auto.words
    (c.advance.ensures.step e.markers there) in
    ap (λ (x : Exchange). record { plan = plan; exchange = x }) is
    ∙ ap (λ (o : OfPlan). record { plan = o.plan; exchange = after_step o.plan k o.exchange }) c.self.view_is
