use Rattle.std.proofs.Common.{List, subst}
use Rattle.xbar_plan.{specs.{Directory.{first_member, ArePlaced}, declared.group.Member.Member}, proofs.PlacedMembers.{all_groups-placed, more_groups-placed}}
use Rattle.xbar_plan.proofs.directory.members.placed_members.Goals as goal

pub loop-number-preserved : goal.loop-number-preserved
loop-number-preserved c =
    let one =
    subst (λ (own : List Member). ArePlaced c.loop-number.members.items (first_member c.loop-number.number own) c.with_members-members.result.items)
    c.members-own.ensures c.with_members-members.ensures in
    record {
      size = c.with_members-members.ensures.size;
      placed =
          more_groups-placed c.loop-number.members.items c.with_members-members.result.items c.loop-number.number c.args.groups.now c.index-groups-number.result
          c.loop-number-test.true c.index-groups-number.is c.loop-number.invariant.placed one;
    }

pub returns : goal.returns
returns c =
    all_groups-placed c.loop-number.members.items c.args.groups.now c.loop-number.number c.loop-number-test.false c.loop-number.invariant.size
    c.loop-number.invariant.placed
