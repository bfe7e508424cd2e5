use Rattle.std.proofs.Common.{rules, refl, ◌≡◌, ◌<◌, ◌≤◌, sym, ◌∙◌, ap, slice_get, Some, None, option_copied}
use Rattle.{std.proofs.lemmas.Option.{slice_get_within, slice_get_read}, xbar_plan.specs.{Lawful.IsLawful, Directory.IsDirectoryOf}}
use Rattle.xbar_plan.proofs.{LawfulLookups.route_of-range, LawfulDirectories.{groups-at, groups-none, groups-past, route-within}}
use Rattle.xbar_plan.proofs.plan.Plan.route.Goals as goal

pub returns-then-code-ge1000-clause-route : goal.returns-then-code-ge1000-clause-route
returns-then-code-ge1000-clause-route c =
    let lawful : IsLawful c.args.self.now = search rules in
    let past : 1000 ≤ c.args.code = search rules in
    sym (groups-past c.args.self.now lawful c.args.code past)

pub route_of-requires : goal.route_of-requires
route_of-requires c =
    let below : c.args.code < 1000 = search rules in
    slice_get_within c.self.inside.directory.routes c.args.code _ (c.self.invariant.shown.routes c.args.code below)

pub returns-in_err-place-clause-route : goal.returns-in_err-place-clause-route
returns-in_err-place-clause-route c =
    let shown : IsDirectoryOf c.args.self.now c.self.inside.directory = search rules in
    let below : c.args.code < 1000 = search rules in
    let none : slice_get c.self.inside.directory.routes c.args.code ≡ Some None = search rules in
    let nothing : option_copied c.from_residual.result ≡ None = search rules in
    nothing ∙ sym (groups-none c.args.self.now c.self.inside.directory shown c.args.code below none)

pub returns-clause-route : goal.returns-clause-route
returns-clause-route c =
    let shown : IsDirectoryOf c.args.self.now c.self.inside.directory = search rules in
    let below : c.args.code < 1000 = search rules in
    let some : slice_get c.self.inside.directory.routes c.args.code ≡ Some (Some c.in_ok-place.place) = search rules in
    let within = route-within c.args.self.now c.self.inside.directory shown c.args.code _ below some in
    let here : slice_get c.args.self.now.routes c.in_ok-place.place ≡ Some c.index.result.now =
    slice_get_read c.args.self.now.routes _ _ _ refl within (search rules) in
    let groups : c.groups.result.now ≡ c.index.result.now.groups = search rules in
    ap Some groups ∙ sym (groups-at c.args.self.now c.self.inside.directory shown c.args.code _ _ below some here)

pub returns-clause-groups : goal.returns-clause-groups
returns-clause-groups c =
    let lawful : IsLawful c.args.self.now = search rules in
    route_of-range c.args.self.now lawful c.args.code c.groups.result.now (sym (returns-clause-route c))
