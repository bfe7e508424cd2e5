use Rattle.std.proofs.Common.{arith}
use Rattle.{std.proofs.lemmas.Result.IfOk-weaker, xbar_moves.specs.declared.kinds.Kind.TheVariants.Completing}
use Rattle.xbar_markers.{specs.contracts.stages.complete_stage.{G-row, W-row}, proofs.{Sent.{state_or_error_send, state_send}, Stayed.all_stayed}}
use denote.{Exit.no, Param.Send.{arg_send, param_send}}
use Rattle.xbar_markers.proofs.stages.complete_stage.Goals as goal

pub map_vec-requires-send-J : goal.map_vec-requires-send-J
map_vec-requires-send-J g c κs within =
    param_send _ _ (arg_send _ no _ (state_send (W-row g.row.G g.row.R g.row.W) g.W.Words (G-row g.row.G g.row.R g.row.W) g.G.Gate c.type_bounds.send-G))

pub map_vec-requires-send-X : goal.map_vec-requires-send-X
map_vec-requires-send-X g c κs within =
    param_send _ _ (arg_send _ no _ (state_or_error_send (W-row g.row.G g.row.R g.row.W) g.W.Words (G-row g.row.G g.row.R g.row.W) g.G.Gate
    c.type_bounds.send-G))

pub returns : goal.returns
returns g c =
    let stayed = all_stayed Completing c.args.fabric.now c.args.queues.now c.args.states.items in
    let came = c.in_ok-after.ensures in
    let results = c.in_ok-after.after in
    IfOk-weaker c.all_ok.result _ _
    (λ after ok.
    stayed after.items results.items ok (omega (arith, came.len, c.args.states.ok.0, results.ok.0))
    (λ i d lt. let one = (came.each i d lt).1 in (one.job, one.job_is, one.call.met)))
    c.all_ok.ensures
