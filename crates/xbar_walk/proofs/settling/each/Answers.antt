use Rattle.std.proofs.Common.{◌≡◌, ℕ, length, subst, arith}
use Rattle.{xbar_moves.specs.Settling.for_each, xbar_walk.specs.{Observers.ChangesAs, Parts.{after_part, walk_of_part}, Walks.walk_for_each}}
use Rattle.xbar_walk.proofs.Settlings.{count_kept, none_done, one_done}
use Rattle.xbar_walk.proofs.settling.each.Goals as goal

pub loop-marker-init : goal.loop-marker-init
loop-marker-init g c = none_done g.O.Observer.Describes c.args.part c.args.office.now c.args.observer.now

pub do_part-requires : goal.do_part-requires
do_part-requires g c =
    let size =
    count_kept g.O.Observer.Describes c.args.part c.args.office.now c.args.observer.now c.loop-marker.office c.loop-marker.observer c.loop-marker.marker
    c.loop-marker.invariant in
    omega (arith, size)

pub loop-marker-preserved : goal.loop-marker-preserved
loop-marker-preserved g c =
    one_done g.O.Observer.Describes c.args.part c.args.office.now c.args.observer.now c.loop-marker.office c.loop-marker.observer c.loop-marker.marker
    c.loop-marker.invariant
    _ _ c.in_ok-do_part.ensures.office c.in_ok-do_part.ensures.observed

pub returns-clause-office : goal.returns-clause-office
returns-clause-office g c =
    let first = c.args.office.now in
    let all : c.loop-marker.marker ≡ length first.exchange.markers = omega arith in
    subst (λ (n : ℕ). c.loop-marker.office ≡ record first { exchange = for_each (after_part c.args.part first.plan) n first.exchange }) all
    c.loop-marker.invariant.office

pub returns-clause-observed : goal.returns-clause-observed
returns-clause-observed g c =
    let all : c.loop-marker.marker ≡ length c.args.office.now.exchange.markers = omega arith in
    subst (λ (n : ℕ). ChangesAs g.O.Observer.Describes (walk_for_each (walk_of_part c.args.part) n) c.args.office.now c.args.observer.now c.loop-marker.office
    c.loop-marker.observer) all c.loop-marker.invariant.seen
