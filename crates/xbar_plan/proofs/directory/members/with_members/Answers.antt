use Rattle.xbar_plan.proofs.PlacedMembers.{no_members-placed, more_members-placed}
use Rattle.xbar_plan.proofs.directory.members.with_members.Goals as goal

pub loop-index-init : goal.loop-index-init
loop-index-init c = no_members-placed c.args.members.items c.args.group c.requires.size

pub loop-index-preserved : goal.loop-index-preserved
loop-index-preserved c =
    more_members-placed c.args.members.items c.loop-index.members.items c.with_member-members.result.items c.args.group c.loop-index.index c.args.own.now
    c.index-own-index.result
    c.loop-index-test.true c.index-own-index.is c.loop-index.invariant c.with_member-members.ensures
