use Rattle.xbar_plan.proofs.PlacedMembers.{put-single, put-pair}
use Rattle.xbar_plan.proofs.directory.members.with_member.Goals as goal

pub returns-in_default : goal.returns-in_default
returns-in_default c =
    put-single c.args.members.items c.with_place-members.result.items c.args.group c.args.index c.args.member c.in_default.is c.with_place-members.ensures

pub returns : goal.returns
returns c =
    put-pair c.args.members.items c.with_place-members.result.items c.with_place.result.items c.args.group c.args.index c.args.member c.in-Some.second
    c.in-Some.is c.with_place-members.ensures c.with_place.ensures
