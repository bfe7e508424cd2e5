-- A worker and its thread state may go to any thread to which the gate may: a desk may, and so may
-- calls that were dialled. So may what comes back.
use denote.RattleType.{RattleType}
use mathlib.Core.List.{[], ◌∷◌}
use mir.Syntax.{Sym}
use Rattle.{std.proofs.Crossing.Vec-send, xbar_fabric.proofs.Sent.desk_send}
use denote.Param.Send as send
use denote.Struct.Declared as declared
use denote.Struct.Tuple as tuple
use Rattle.std.proofs.alloc.AllocError.TheSendSync as alloc_error_sent
use Rattle.std.proofs.result.Result.TheSendSync as result_sent
use Rattle.std.specs.contracts.alloc.AllocError as alloc_error
use Rattle.std.specs.contracts.alloc.Global as global
use Rattle.std.specs.contracts.impls.GlobalAllocator.TheImpl as allocator
use Rattle.std.specs.contracts.result.Result as result
use Rattle.std.specs.contracts.vec.Vec as vec
use Rattle.xbar_fabric.specs.contracts.desk.Desk as desk
use Rattle.xbar_markers.proofs.dialled_call.DialledCall.TheSendSync as call_sent
use Rattle.xbar_markers.proofs.thread_state.ThreadState.TheSendSync as state_sent
use Rattle.xbar_markers.specs.contracts.dialled_call.DialledCall as call
use Rattle.xbar_markers.specs.contracts.thread_state.ThreadState as state
use Rattle.xbar_markers.specs.declared.gate.Gate as gate_trait
use Rattle.xbar_markers.specs.declared.words.Words as words_trait

-- a closure with five captures may go to any thread to which each of them may
pub closure_send : {first second third fourth fifth : RattleType} (name : Sym)
    → send.IsSend first → send.IsSend second → send.IsSend third → send.IsSend fourth
    → send.IsSend fifth
    → send.IsSend (tuple.TupleAt name (first ∷ second ∷ third ∷ fourth ∷ fifth ∷ []))
closure_send {first} {second} {third} {fourth} {fifth} name one two three four five =
    let closure = tuple.type_at name (first ∷ second ∷ third ∷ fourth ∷ fifth ∷ []) in
    send.recorded_send (declared.field closure).row _ _ closure.to_one
    (send.struct_send (declared.shape closure) (one, (two, (three, (four, (five, tt))))))

abbrev pub or_error_row : RattleType → RattleType
or_error_row row = result.the_row row alloc_error.the_row

or_error_send : (row : RattleType) → send.IsSend row → send.IsSend (or_error_row row)
or_error_send row row_send =
    result_sent.the_send row alloc_error.the_row row_send alloc_error_sent.the_send

module _ (words : RattleType) (named : words_trait.Ghosts words.Denot) where
  abbrev pub call_row : RattleType
  call_row = call.the_row words named

  pub call_send : send.IsSend call_row
  call_send = call_sent.the_send words named

  module _ (gate : RattleType) (gates : gate_trait.Ghosts gate.Denot) where
    -- rows of a thread state, and of several
    abbrev pub state_row : RattleType
    state_row = state.the_row desk.the_row gate call_row gates

    abbrev pub states_row : RattleType
    states_row = vec.the_row state_row global.the_row allocator.ghosts

    module _ (gate_send : send.IsSend gate) where
      pub state_send : send.IsSend state_row
      state_send = state_sent.the_send desk.the_row gate call_row gates desk_send gate_send call_send

      pub states_send : send.IsSend states_row
      states_send = Vec-send state_row state_send

      pub state_or_error_send : send.IsSend (or_error_row state_row)
      state_or_error_send = or_error_send state_row state_send

      pub states_or_error_send : send.IsSend (or_error_row states_row)
      states_or_error_send = or_error_send states_row states_send
