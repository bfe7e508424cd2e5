use Rattle.std.proofs.Common.{subst}
use denote.{Exit.no, Param.Send.{arg_send, param_send}}
use Rattle.{xbar_fabric.proofs.Sent.desk_send, xbar_markers.specs.Handing.IsBegun}
use Rattle.xbar_markers.proofs.SentDesks.{begun_row, begun_send, ended_row, ended_send, with_desk_send}
use Rattle.xbar_markers.specs.contracts.handing.Handed as handed
use Rattle.xbar_markers.proofs.handing.Handed.TheSendSync as handed_sent
use Rattle.xbar_markers.proofs.handing.hand_over.Goals as goal

pub on_thread-desk-requires-send-A : goal.on_thread-desk-requires-send-A
on_thread-desk-requires-send-A g c κs within = param_send _ _ (arg_send _ no _ desk_send)

pub on_thread-desk-requires-send-B : goal.on_thread-desk-requires-send-B
on_thread-desk-requires-send-B g c κs within = param_send _ _ (arg_send _ no _ (with_desk_send begun_row _ begun_send))

pub on_thread-requires-send-A : goal.on_thread-requires-send-A
on_thread-requires-send-A g c κs within = param_send _ _ (arg_send _ no _ (with_desk_send ended_row _ ended_send))

pub on_thread-requires-send-B : goal.on_thread-requires-send-B
on_thread-requires-send-B g c κs within = param_send _ _ (arg_send _ no _ (with_desk_send handed.the_row _ handed_sent.the_send))

pub returns : goal.returns
returns g c =
    let begun = subst (IsBegun c.args.desk c.args.job_no c.args.job c.args.stop c.on_thread-desk.result.0) c.in-Ok.is c.on_thread-desk.ensures.1 in
    (begun.0, c.on_thread.ensures c.args.desk c.args.job_no c.args.stop c.args.job begun.1)
