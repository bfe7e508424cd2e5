use Rattle.std.proofs.Common.{rules, ◌≡◌, ◌≤◌, length, arith}
use Rattle.xbar_plan.proofs.LawfulPlans.{group_count-range}
use Rattle.xbar_plan.proofs.plan.Plan.group_count.Goals as goal

pub overflow_cast-result : goal.overflow_cast-result
overflow_cast-result c =
    let few : length c.self.inside.groups.items ≤ 16 = (group_count-range _ c.self.invariant.lawful).1 in
    let count : c.len.result ≡ length c.self.inside.groups.items = search rules in
    omega (arith, few, count)
