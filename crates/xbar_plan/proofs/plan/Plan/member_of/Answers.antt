use Rattle.std.proofs.Common.{rules, ◌≡◌}
use Rattle.xbar_plan.{specs.{Lawful.IsLawful, Tables.member_place}, proofs.MemberPlaces.member_found}
use Rattle.xbar_plan.proofs.plan.Plan.member_of.Goals as goal

pub returns-clause-range : goal.returns-clause-range
returns-clause-range c =
    let lawful : IsLawful c.args.self.now = search rules in
    let is : c.member_at.result ≡ member_place c.args.self.now c.args.place = search rules in
    member_found c.args.self.now lawful c.args.place c.member_at.result is
