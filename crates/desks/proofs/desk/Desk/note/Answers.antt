use Rattle.std.proofs.Common.{◌<◌, ap, sym, ◌∙◌, arith}
use Rattle.{turns.specs.System.system_of, desks.proofs.Placing.some_places}
use Rattle.desks.proofs.desk.Desk.note.Goals as goal

pub note_seat-requires : goal.note_seat-requires
note_seat-requires g c =
    let shared = c.room.inside.table.shared in
    let setting = shared.key.setting.value in
    let right = c.room.invariant.0 in
    let some =
    some_places (system_of (g.F.Jobs.system setting)) (g.F.Jobs.places setting) (g.met.F.Jobs.is_system setting right)
    (g.met.F.Jobs.are_places setting right) in
    let words : 0 < shared.table_id.words = omega (arith, some, c.room.invariant.1) in
    record { table = (ap (λ d. d.table) c.self.view_is ∙ c.requires.table ∙ sym (ap (λ r. r.table) c.room.view_is), words) }
