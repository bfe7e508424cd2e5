use Rattle.std.proofs.Common.{arith, sym, ◌∙◌}
use Rattle.crossbar5.proofs.RunRows.{all_done, all_reached, all_seen, none_done, row_done, row_refused}
use Rattle.crossbar5.proofs.rows.do_rows.Goals as goal

pub loop-index-init : goal.loop-index-init
loop-index-init g c = none_done g.O.Observer.Describes c.args.office.now c.args.observer.now c.args.first c.args.rows.now

pub returns-in-Some-clause-reached : goal.returns-in-Some-clause-reached
returns-in-Some-clause-reached g c =
    row_refused g.O.Observer.Describes c.args.office.now c.args.observer.now c.args.first c.args.rows.now c.loop-index.office c.loop-index.observer
    c.loop-index.index c.loop-index.invariant c.index-rows-index.result (omega arith) c.index-rows-index.is c.in-Some.why
    (sym c.in_ok-why.ensures.fault ∙ c.in-Some.is)

pub loop-index-preserved : goal.loop-index-preserved
loop-index-preserved g c =
    row_done g.O.Observer.Describes c.args.office.now c.args.observer.now c.args.first c.args.rows.now c.loop-index.office c.loop-index.observer
    c.loop-index.index c.loop-index.invariant c.index-rows-index.result (omega arith) c.index-rows-index.is _ _
    (sym c.in_ok-why.ensures.fault ∙ c.in_default.is) (c.in_ok-why.ensures.done c.in_default.is) (c.in_ok-why.ensures.observed c.in_default.is)

pub returns-clause-reached : goal.returns-clause-reached
returns-clause-reached g c =
    all_reached g.O.Observer.Describes c.args.office.now c.args.observer.now c.args.first c.args.rows.now c.loop-index.office c.loop-index.observer
    c.loop-index.index c.loop-index.invariant (omega arith)

pub returns-clause-done : goal.returns-clause-done
returns-clause-done g c =
    λ none. all_done g.O.Observer.Describes c.args.office.now c.args.observer.now c.args.first c.args.rows.now c.loop-index.office c.loop-index.observer
    c.loop-index.index c.loop-index.invariant (omega arith)

pub returns-clause-observed : goal.returns-clause-observed
returns-clause-observed g c =
    λ none. all_seen g.O.Observer.Describes c.args.office.now c.args.observer.now c.args.first c.args.rows.now c.loop-index.office c.loop-index.observer
    c.loop-index.index c.loop-index.invariant (omega arith)
