use Rattle.std.proofs.Common.{◌≡◌, slice_set, sym, ◌∙◌, ap, subst, arith}
use Rattle.{turns.specs.{Attempt.begin_with, World.Does}, xbar_jobs.specs.Jobs.first_conn}
use Rattle.xbar_moves.{specs.{Exchange.{Exchange, OfPlan}, Moves.{assigned, refusal}}, proofs.Jobs.assigned_is}
use Rattle.xbar_core.{specs.Standing.{HasRoom, IsExchange}, proofs.{Kept.{kept_assigned, room_assigned, within_if_taken}, MarkerSteps.marker_read}}
use Rattle.xbar_core.proofs.exchange.Exchange.assign.Goals as goal

pub invariant_of-self-2 : goal.invariant_of-self-2
invariant_of-self-2 c =
    let plan = c.self.inside.plan.now in
    let k = c.args.marker in
    let e : Exchange = record { words = c.self.inside.words.items; markers = c.self.inside.markers.items; records = c.self.inside.records.items } in
    let free = ap (λ (o : OfPlan). refusal o.exchange k c.args.job) c.self.view_is ∙ sym c.in_default.ensures in
    let m = c.index_mut.result.now in
    let there = marker_read e.markers k m (within_if_taken e k c.args.job free) c.index_mut.ensures.value in
    let is : record e { markers = slice_set e.markers k c.begin.new.self; records = c.reserve.new.self.items }
    ≡ record e { markers = slice_set e.markers k (record m { work = Does c.args.job_no (begin_with (first_conn c.args.job) c.args.job) }) } =
    λ i. record { words = e.words; markers = slice_set e.markers k (c.begin.ensures i); records = c.reserve.ensures.items i } in
    let work = Does c.args.job_no (begin_with (first_conn c.args.job) c.args.job) in
    let room =
    room_assigned e k c.reserve.new.self.cap m work (omega
    (arith, c.in_ok-reserve.ensures.ok, c.reserve.ensures.len, c.len.ensures, c.self.inside.records.ok.0, c.self.inside.markers.ok.0)) in (
      subst (IsExchange plan) (sym is) (kept_assigned plan c.self.invariant.2 e k c.args.job_no m c.args.job c.self.invariant.0 c.job_is_in_range.ensures there
          free),
      subst (λ (x : Exchange). HasRoom x c.reserve.new.self.cap) (sym is) room,
      c.self.invariant.2,
    )

pub returns-clause-ok : goal.returns-clause-ok
returns-clause-ok c =
    let plan = c.self.inside.plan.now in
    let k = c.args.marker in
    let e : Exchange = record { words = c.self.inside.words.items; markers = c.self.inside.markers.items; records = c.self.inside.records.items } in
    let free = ap (λ (o : OfPlan). refusal o.exchange k c.args.job) c.self.view_is ∙ sym c.in_default.ensures in
    let there = marker_read e.markers k c.index_mut.result.now (within_if_taken e k c.args.job free) c.index_mut.ensures.value in (
      sym c.in_default.ensures,
      (λ i.
          record {
            plan = plan;
            exchange = record { words = e.words; markers = slice_set e.markers k (c.begin.ensures i); records = c.reserve.ensures.items i };
          })
          ∙ ap (λ (x : Exchange). record { plan = plan; exchange = x }) (sym (assigned_is e k c.index_mut.result.now there c.args.job_no c.args.job))
          ∙ ap (λ (o : OfPlan). record { plan = o.plan; exchange = assigned k c.args.job_no c.args.job o.exchange }) c.self.view_is,
    )
