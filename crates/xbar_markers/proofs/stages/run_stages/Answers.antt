use denote.{Exit.no, Param.Send.{arg_send, param_send, shr_send}}
use Rattle.xbar_markers.{specs.contracts.stages.run_stages.{G-row, W-row}, proofs.Sent.{call_send, closure_send, states_or_error_send, states_send}}
use Rattle.std.proofs.alloc.Global.TheSendSync as global
use Rattle.xbar_fabric.proofs.fabric.Fabric.TheSendSync as fabric
use Rattle.xbar_markers.proofs.queues.Queues.TheSendSync as queues
use Rattle.xbar_markers.proofs.stages.run_stages.Goals as goal

pub join-completed-requires-send-F : goal.join-completed-requires-send-F
join-completed-requires-send-F g c κs within =
    param_send _ _
    (arg_send _ no _ (closure_send _ (shr_send _ _ _ c.type_bounds.sync-R) global.the_send
    (shr_send _ _ _ (fabric.the_sync _))
    (shr_send _ _ _ (queues.the_sync _ _ (call_send (W-row g.row.G g.row.R g.row.W) g.W.Words)))
    (states_send (W-row g.row.G g.row.R g.row.W) g.W.Words (G-row g.row.G g.row.R g.row.W) g.G.Gate c.type_bounds.send-G)))

pub join-completed-requires-send-A : goal.join-completed-requires-send-A
join-completed-requires-send-A g c κs within =
    param_send _ _
    (arg_send _ no _ (states_or_error_send (W-row g.row.G g.row.R g.row.W) g.W.Words (G-row g.row.G g.row.R g.row.W) g.G.Gate c.type_bounds.send-G))
