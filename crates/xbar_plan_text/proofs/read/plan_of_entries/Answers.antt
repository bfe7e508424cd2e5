use Rattle.std.proofs.Common.{rules, ◌≡◌, map}
use Rattle.xbar_plan_text.{specs.Texts.capped_route, proofs.Stages.entries_read}
use Rattle.xbar_plan_text.proofs.read.plan_of_entries.Goals as goal

pub returns : goal.returns
returns c =
    let routes : c.in_ok-routes.routes.items ≡ map (capped_route c.args.groups.items) c.args.codes.now = search rules in
    entries_read (record { groups = c.args.groups.items; stations = c.args.stations.items; codes = c.args.codes.now; faults = c.args.faults.items })
    c.checked.result
    (rw (← routes) c.checked.ensures)
