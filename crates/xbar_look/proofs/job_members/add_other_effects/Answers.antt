use Rattle.xbar_jobs.proofs.Items.{item_within}
use Rattle.xbar_look.proofs.job_members.add_other_effects.Goals as goal

pub step-requires : goal.step-requires
step-requires c = c.requires.effects _ (item_within c.args.effects.now c.loop-effect.effect-index _ c.effect-item.is c.loop-effect-test.true)
