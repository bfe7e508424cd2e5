use Rattle.{turns.specs.System.system_of, desks.proofs.HeldLocks.allows_load}
use Rattle.desks.proofs.holder.load_lock_word.Goals as goal

pub load-requires-clause-allowed : goal.load-requires-clause-allowed
load-requires-clause-allowed g c =
    allows_load (system_of (g.F.Jobs.system c.args.setting.now)) c.args.shared.now.key.count c.args.shared.now.table_id.slots c.args.seat.now.id
    c.lock_word.result c.args.seat.now.me
