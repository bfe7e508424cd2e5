use Rattle.{turns.specs.System.system_of, desks.proofs.{Dealing.empties, Placing.splits_placed}}
use Rattle.desks.proofs.meeting.split_empty_seat.Goals as goal

pub split_seat-requires : goal.split_seat-requires
split_seat-requires g c = (
  c.requires.table.0,
  c.requires.table.1,
  splits_placed (system_of (g.F.Jobs.system c.args.shared.now.key.setting.value)) (g.F.Jobs.places c.args.shared.now.key.setting.value)
      c.args.shared.now.key.count c.args.seat.now.id c.args.seat.now.me.0 _ _
      (empties (system_of (g.F.Jobs.system c.args.shared.now.key.setting.value)) c.args.shared.now.key.count c.args.seat.now.id c.args.seat.now.me.0),
)
