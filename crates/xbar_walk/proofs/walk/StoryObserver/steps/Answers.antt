use Rattle.std.proofs.Common.{true, false, arith}
use Rattle.{xbar_core.proofs.Loops.{none_left, rest_idle}, xbar_walk.proofs.ToldSteps.{idle_is, idle_seen, none_seen, none_told, one_told}}
use Rattle.xbar_walk.proofs.walk.StoryObserver.steps.Goals as goal

pub loop-made-init : goal.loop-made-init
loop-made-init c = none_told c.args.office.now c.args.self.now c.args.marker c.args.count

pub is_idle-requires : goal.is_idle-requires
is_idle-requires c = let size = c.loop-made.invariant.office.size in omega (arith, size)

pub walk_step-requires-clause-within : goal.walk_step-requires-clause-within
walk_step-requires-clause-within c = let size = c.loop-made.invariant.office.size in omega (arith, size)

pub walk_step-requires-clause-goes : goal.walk_step-requires-clause-goes
walk_step-requires-clause-goes c =
    let size = c.loop-made.invariant.office.size in
    idle_is c.loop-made.office.exchange c.args.marker (omega (arith, size)) false c.if-is_idle.ensures

pub returns-then-is_idle-clause-office : goal.returns-then-is_idle-clause-office
returns-then-is_idle-clause-office c =
    rest_idle c.args.office.now c.loop-made.office c.args.marker c.args.count _ c.requires c.loop-made.invariant.office c.if-is_idle.ensures

pub returns-then-is_idle-clause-observed : goal.returns-then-is_idle-clause-observed
returns-then-is_idle-clause-observed c =
    let size = c.loop-made.invariant.office.size in
    idle_seen c.args.office.now c.loop-made.office c.args.self.now c.loop-made.self c.args.marker c.args.count c.loop-made._made c.loop-made.invariant
    (omega arith)
    (idle_is c.loop-made.office.exchange c.args.marker (omega (arith, size)) true c.if-is_idle.ensures)

pub loop-made-preserved : goal.loop-made-preserved
loop-made-preserved c =
    one_told c.args.office.now c.loop-made.office c.args.self.now c.loop-made.self c.args.marker c.args.count c.loop-made._made c.loop-made.invariant _ _
    (omega arith)
    c.walk_step.ensures.step c.in_ok-walk_step.ensures.observed

pub returns-clause-office : goal.returns-clause-office
returns-clause-office c = none_left c.args.office.now c.loop-made.office c.args.marker c.args.count _ (omega arith) c.loop-made.invariant.office

pub returns-clause-observed : goal.returns-clause-observed
returns-clause-observed c =
    none_seen c.args.office.now c.loop-made.office c.args.self.now c.loop-made.self c.args.marker c.args.count c.loop-made._made c.loop-made.invariant
    (omega arith) (omega arith)
