use Rattle.std.proofs.Common.{rules, refl, ◌≡◌, slice_get, Some}
use Rattle.{std.proofs.lemmas.Option.slice_get_read, xbar_plan.{specs.Lawful.IsLawful, proofs.LawfulPlans.member_count-range}}
use Rattle.xbar_plan.proofs.plan.Plan.group.Goals as goal

pub returns-clause-members : goal.returns-clause-members
returns-clause-members c =
    let lawful : IsLawful c.args.self.now = search rules in
    let there : slice_get c.args.self.now.groups c.args.number ≡ Some c.index.result.now =
    slice_get_read c.args.self.now.groups _ _ _ refl c.requires (search rules) in
    member_count-range c.args.self.now lawful c.args.number c.index.result.now there
