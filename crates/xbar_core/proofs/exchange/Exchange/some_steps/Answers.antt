use Rattle.std.proofs.Common.{ap, length, arith}
use Rattle.{xbar_moves.specs.Exchange.OfPlan, xbar_core.proofs.Loops.{none_ran, one_made}}
use Rattle.xbar_core.proofs.exchange.Exchange.some_steps.Goals as goal

pub advance-requires : goal.advance-requires
advance-requires c =
    let same =
    ap (λ (o : OfPlan). length o.exchange.markers) (none_ran c.args.self.now c.run-made.new.self c.args.marker c.run-made.result c.if-made-gt0.false
    c.run-made.ensures.steps) in
    omega (arith, same, c.requires.marker)

pub returns-clause-steps : goal.returns-clause-steps
returns-clause-steps c =
    one_made c.args.self.now c.run-made.new.self c.advance.new.self c.args.marker
    (none_ran c.args.self.now c.run-made.new.self c.args.marker c.run-made.result c.if-made-gt0.false c.run-made.ensures.steps) c.advance.ensures
