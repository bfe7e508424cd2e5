use Rattle.std.proofs.Common.{◌≡◌, take, true}
use Rattle.xbar_plan.specs.Lawful.{do_routes_lead_to_trunks}
use Rattle.xbar_plan.proofs.lawful.routes.check_kinds.Given as goal

abbrev pub invariant-loop-item : goal.invariant-loop-item
invariant-loop-item l = do_routes_lead_to_trunks l.tables.groups.now (take l.item l.tables.routes.now) ≡ true
