use Rattle.std.proofs.Common.{◌≡◌, take, Some}
use Rattle.xbar_plan_text.specs.Texts.{read_all, member_of}
use Rattle.xbar_plan_text.proofs.read.groups.read_members.Given as goal

-- the items so far, as read, are those kept
abbrev pub invariant-loop-part : goal.invariant-loop-part
invariant-loop-part l = read_all (λ part. member_of l.kind part.now) (take l.part-index l.parts) ≡ Some (l.members.items)
