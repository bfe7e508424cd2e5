use Rattle.std.proofs.Common.{arith, refl}
use Rattle.xbar_jobs.proofs.JunctorsMade.{all_made, one_more_made}
use Rattle.xbar_jobs.proofs.sides.junctors_after.Goals as goal

pub loop-channel-init : goal.loop-channel-init
loop-channel-init c = record { size = c.told-junctors; so_far = refl }

pub loop-channel-preserved : goal.loop-channel-preserved
loop-channel-preserved c =
    one_more_made c.args.effects.now c.args.frame c.loop-channel.channel c.args.junctors.now c.loop-channel.words c.from-index.result c.line_junctor.result
    c.made.result c.from-index.ensures c.loop-channel.invariant (omega arith) c.line_junctor.ensures c.made.ensures

pub returns : goal.returns
returns c = all_made c.args.effects.now c.args.frame c.loop-channel.channel c.args.junctors.now c.loop-channel.words c.loop-channel.invariant (omega arith)
