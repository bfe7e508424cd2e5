use Rattle.std.proofs.Common.{rules, ◌≡◌, ◌<◌, arith}
use Rattle.{std.proofs.lemmas.Option.slice_get_within, xbar_plan.specs.{Tables.{Tables, register_group as register_group_of}, Lawful.IsLawful}}
use Rattle.xbar_plan.proofs.{LawfulPlans.group_count-range, LawfulLookups.register_group-is}
use Rattle.xbar_plan.proofs.plan.Plan.register_group.Goals as goal

below_16 : (plan : Tables) → IsLawful plan → register_group_of plan < 16
below_16 plan lawful =
    let few = (group_count-range plan lawful).1 in
    let there = register_group-is plan lawful in
    let within = slice_get_within plan.groups (register_group_of plan) there.0 there.1 in
    omega (arith, few, within)

pub overflow_cast-result : goal.overflow_cast-result
overflow_cast-result c =
    let lawful : IsLawful c.args.self.now = search rules in
    let same : c.unwrap_or.result ≡ register_group_of c.args.self.now = search rules in
    omega (arith, same, below_16 c.args.self.now lawful)

-- the number of the register group is below sixteen
pub returns-clause-range : goal.returns-clause-range
returns-clause-range c =
    let lawful : IsLawful c.args.self.now = search rules in
    let same : c.unwrap_or.result ≡ register_group_of c.args.self.now = search rules in
    omega (arith, same, below_16 c.args.self.now lawful)

pub returns-clause-there : goal.returns-clause-there
returns-clause-there c =
    let lawful : IsLawful c.args.self.now = search rules in
    let same : c.unwrap_or.result ≡ register_group_of c.args.self.now = search rules in
    let there = register_group-is c.args.self.now lawful in
    let within = slice_get_within c.args.self.now.groups (register_group_of c.args.self.now) there.0 there.1 in
    omega (arith, same, within)
