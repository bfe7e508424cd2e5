use Rattle.std.proofs.Common.{◌∙◌, None, ap, subst, sym, true≢false}
use Rattle.{xbar_office.specs.declared.job.Job.TheVariants.Complete, xbar_moves.specs.{Kinds.takes, declared.kinds.Kind.Kind}, xbar_fabric.specs.Views.DeskView}
use Rattle.xbar_markers.specs.{Calls.HasDialTone, declared.call_records.CallRecords.CallRecords}
use Rattle.xbar_markers.proofs.CompletedCalls.{completed_alone, completed_released, ready_learned}
use Rattle.xbar_markers.proofs.completing.Worker+Desk+G.complete.Goals.{then-call+then-is_connected, else-call, else-call-via-then-call+else-is_connected}
use Rattle.xbar_markers.proofs.completing.Worker+Desk+G.complete.Goals.{else-call-via-else-call}
use Rattle.xbar_markers.proofs.completing.Worker+Desk+G.complete.Goals as goal

pub do_job-complete-requires-clause-ready : goal.do_job-complete-requires-clause-ready
do_job-complete-requires-clause-ready g c = ready_learned c.args.self.now.desk c.learn.new.self c.args.fabric.now c.learn.ensures.same c.requires.ready

pub do_job-complete-requires-clause-takes : goal.do_job-complete-requires-clause-takes
do_job-complete-requires-clause-takes g c =
    ap (λ (k : Kind). takes k (Complete c.call.inside.call.line c.call.inside.call.digits))
    (ap (λ (d : DeskView). d.kind) c.learn.ensures.same ∙ c.requires.kind)

pub returns : goal.returns
returns g c =
    let before = c.args.self.now.desk in
    let learned = c.learn.new.self in
    let between = c.do_job-complete.new.self.desk in
    let done = c.do_job-complete.ensures.done in
    let noted = c.call.inside.note.seen in
    let same = c.learn.ensures.same in
    let has = c.learn.ensures.learned in
    let idle = c.requires.ready.idle in
    let is_noted = c.call.invariant.1 in
    let call : CallRecords = record { call = c.call.inside.call; dial = c.call.inside.dial; complete = None; release = None } in
    let tone = subst HasDialTone (sym c.call.view_is) c.requires.tone in
    elim c.if-call.branch [
      | then-call+then-is_connected w ↦
          rw (w.self-is, w.release-is, sym c.call.view_is)
          (completed_released before learned between w.do_job.new.self.desk call c.do_job-complete.result w.do_job.result noted idle same has is_noted
          c.requires.kind tone done w.do_job.ensures.done
          w.if-call.true (sym w.if-is_connected.ensures))
      | else-call w ↦
          rw (w.self-is, w.release-is, sym c.call.view_is)
          (completed_alone before learned between call c.do_job-complete.result noted idle same has is_noted c.requires.kind tone done (λ to.
          elim w.else-call.branch [
            | else-call-via-then-call+else-is_connected w' ↦ true≢false (sym to.1 ∙ (sym w'.is_connected.ensures ∙ w'.if-is_connected.false))
            | else-call-via-else-call w' ↦ true≢false (sym to.0 ∙ w'.if-call.false)
          ]))
    ]
