-- what goes to another thread with a desk, and comes back with it
use denote.RattleType.{RattleType}
use mathlib.Core.List.{[], ◌∷◌}
use mir.Syntax.{Sym}
use Rattle.xbar_fabric.proofs.Sent.{desk_send}
use denote.Param.Send as send
use denote.Struct.Declared as declared
use denote.Struct.Tuple as tuple
use Rattle.std.proofs.option.Option.TheSendSync as option_sent
use Rattle.std.proofs.result.Result.TheSendSync as result_sent
use Rattle.std.specs.contracts.option.Option as option
use Rattle.std.specs.contracts.result.Result as result
use Rattle.xbar_moves.proofs.kinds.AssignFault.TheSendSync as fault_sent
use Rattle.xbar_moves.specs.contracts.kinds.AssignFault as fault
use Rattle.xbar_fabric.specs.contracts.desk.Desk as desk
use Rattle.xbar_office.proofs.reply.Record.TheSendSync as reply_sent
use Rattle.xbar_office.specs.contracts.reply.Record as reply

-- a desk with something else may go to any thread to which that may
pub with_desk_send : (row : RattleType) (name : Sym) → send.IsSend row → send.IsSend (tuple.TupleAt name (desk.the_row ∷ row ∷ []))
with_desk_send row name row_send =
    let pair = tuple.type_at name (desk.the_row ∷ row ∷ []) in
    send.recorded_send (declared.field pair).row _ _ pair.to_one (send.struct_send (declared.shape pair) (desk_send, (row_send, tt)))

-- rows of a job's record, if it has ended, and of what comes of a job that was to be begun
abbrev pub ended_row : RattleType
ended_row = option.the_row reply.the_row

abbrev pub begun_row : RattleType
begun_row = result.the_row ended_row fault.the_row

pub ended_send : send.IsSend ended_row
ended_send = option_sent.the_send reply.the_row reply_sent.the_send

pub begun_send : send.IsSend begun_row
begun_send = result_sent.the_send ended_row fault.the_row ended_send fault_sent.the_send
