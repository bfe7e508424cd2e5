use Rattle.std.proofs.Common.{◌≡◌, sym, ap, subst}
use Rattle.{atomic_table.specs.Seated.TableId, xbar_plan.specs.Tables.Tables, xbar_jobs.specs.Office.office, xbar_fabric.specs.Meetings.FabricHasClosed}
use Rattle.xbar_fabric.proofs.AllDesks.{are_idle, has_closed}
use Rattle.desks.specs.Met as desks
use Rattle.xbar_fabric.proofs.shutting.shut_all.Goals as goal

pub shut_all_into-requires-clause-desks : goal.shut_all_into-requires-clause-desks
shut_all_into-requires-clause-desks c =
    let plan = c.fabric.inside.plan.now in
    let same : c.args.fabric.plan ≡ c.fabric.inside.plan.now = sym (ap (λ f. f.plan) c.fabric.view_is) in
    let table : c.args.fabric.table ≡ c.fabric.inside.room.table = sym (ap (λ f. f.table) c.fabric.view_is) in
    subst (λ (t : TableId). desks.AreIdle (office plan) t plan c.take_apart.new.rest.items) table
    (are_idle plan c.args.fabric same c.take_apart.new.rest.items c.args.desks.items c.take_apart.ensures.below c.requires)

pub returns : goal.returns
returns c =
    let plan = c.fabric.inside.plan.now in
    let same : c.fabric.inside.plan.now ≡ c.args.fabric.plan = ap (λ f. f.plan) c.fabric.view_is in
    subst (λ (p : Tables). FabricHasClosed p c.args.desks.items c.shut_all_into.result.items) same
    (has_closed plan c.take_apart.new.rest.items c.args.desks.items c.shut_all_into.result.items c.take_apart.ensures.below c.shut_all_into.ensures)
