use Rattle.std.proofs.Common.{ap, ◌∙◌}
use Rattle.{xbar_plan.specs.Tables.Tables, xbar_fabric.{specs.Views.{FabricView, new_desks}, proofs.NewDesks.new_are_idle}}
use Rattle.xbar_fabric.proofs.fabric.Fabric.open.Goals as goal

pub returns-clause-idle : goal.returns-clause-idle
returns-clause-idle c =
    let room = c.in_ok-room.room in
    let kinds = c.as_slice-kinds.result.now in
    let fabric : FabricView = record { table = room.table; plan = c.args.plan.now; count = room.count } in
    let desks =
    c.assort.ensures ∙ ap (λ (p : Tables). new_desks (record { table = room.table; plan = p; count = room.count }) 0 kinds) c.in_ok-room.ensures.room.0 in
    new_are_idle fabric kinds c.assort.new.all.items desks c.in_ok-room.ensures.room.1
