use Rattle.xbar_plan.proofs.LawfulPlans.{group_count-range, member_count-range, member-numbers}
use Rattle.xbar_plan.proofs.laws.groups_have_members.Goals as goal

pub returns-clause-groups : goal.returns-clause-groups
returns-clause-groups c = group_count-range

pub returns-clause-members : goal.returns-clause-members
returns-clause-members c = member_count-range

pub returns-clause-numbers : goal.returns-clause-numbers
returns-clause-numbers c = member-numbers
