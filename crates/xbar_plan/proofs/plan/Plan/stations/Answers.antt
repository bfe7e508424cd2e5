use Rattle.std.proofs.Common.{rules, refl, ◌≡◌, ◌<◌, sym, ◌∙◌, ap, slice_get, Some, None, option_copied}
use Rattle.{std.proofs.lemmas.Option.{slice_get_within, slice_get_read}, xbar_plan.specs.Directory.IsDirectoryOf}
use Rattle.xbar_plan.proofs.LawfulDirectories.{lines-at, lines-none, station-within}
use Rattle.xbar_plan.proofs.plan.Plan.stations.Goals as goal

pub station_of-requires : goal.station_of-requires
station_of-requires c =
    let below : c.args.number < 10000 = search rules in
    slice_get_within c.self.inside.directory.stations c.args.number _ (c.self.invariant.shown.stations c.args.number below)

pub returns-in_err-place-clause-lines : goal.returns-in_err-place-clause-lines
returns-in_err-place-clause-lines c =
    let shown : IsDirectoryOf c.args.self.now c.self.inside.directory = search rules in
    let below : c.args.number < 10000 = search rules in
    let none : slice_get c.self.inside.directory.stations c.args.number ≡ Some None = search rules in
    let nothing : option_copied c.from_residual.result ≡ None = search rules in
    nothing ∙ sym (lines-none c.args.self.now c.self.inside.directory shown c.args.number below none)

pub returns-clause-lines : goal.returns-clause-lines
returns-clause-lines c =
    let shown : IsDirectoryOf c.args.self.now c.self.inside.directory = search rules in
    let below : c.args.number < 10000 = search rules in
    let some : slice_get c.self.inside.directory.stations c.args.number ≡ Some (Some c.in_ok-place.place) = search rules in
    let within = station-within c.args.self.now c.self.inside.directory shown c.args.number _ below some in
    let here : slice_get c.args.self.now.stations c.in_ok-place.place ≡ Some c.index.result.now =
    slice_get_read c.args.self.now.stations _ _ _ refl within (search rules) in
    let lines : c.lines.result.now ≡ c.index.result.now.lines = search rules in
    ap Some lines ∙ sym (lines-at c.args.self.now c.self.inside.directory shown c.args.number _ _ below some here)
