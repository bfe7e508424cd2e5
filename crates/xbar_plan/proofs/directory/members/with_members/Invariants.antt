use Rattle.std.proofs.Common.{take}
use Rattle.xbar_plan.specs.Directory.{first_member, ArePlaced}
use Rattle.xbar_plan.proofs.directory.members.with_members.Given as goal

-- the members so far are placed
abbrev pub invariant-loop-index : goal.invariant-loop-index
invariant-loop-index l = ArePlaced l.fn.members.items (first_member l.group (take l.index l.own)) l.members.items
