use Rattle.std.proofs.Common.{arith}
use Rattle.xbar_core.proofs.Loops.{all_left, none_left, rest_idle, some_made}
use Rattle.xbar_core.proofs.exchange.Exchange.steps.Goals as goal

pub loop-left-init : goal.loop-left-init
loop-left-init c = all_left c.args.self.now c.args.marker c.args.count

pub is_idle-requires : goal.is_idle-requires
is_idle-requires c = let size = c.loop-left.invariant.size in omega (arith, size)

pub some_steps-left-requires-clause-marker : goal.some_steps-left-requires-clause-marker
some_steps-left-requires-clause-marker c = let size = c.loop-left.invariant.size in omega (arith, size)

pub returns-then-is_idle : goal.returns-then-is_idle
returns-then-is_idle c =
    rest_idle c.args.self.now c.loop-left.self c.args.marker c.args.count c.loop-left.left c.requires c.loop-left.invariant c.if-is_idle.ensures

pub loop-left-preserved : goal.loop-left-preserved
loop-left-preserved c =
    some_made c.args.self.now c.loop-left.self c.some_steps-left.new.self c.args.marker c.args.count c.loop-left.left c.some_steps-left.result
    c.some_steps-left.ensures.most c.loop-left.invariant c.some_steps-left.ensures.steps

pub returns : goal.returns
returns c = none_left c.args.self.now c.loop-left.self c.args.marker c.args.count c.loop-left.left c.loop-left-test.false c.loop-left.invariant
