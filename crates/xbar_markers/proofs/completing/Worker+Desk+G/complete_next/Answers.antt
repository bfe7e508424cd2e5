use Rattle.std.proofs.Common.{◌≡◌, ◌∙◌, Some, sym, refl, ap}
use Rattle.xbar_markers.specs.{Calls.HasDialTone, Tasks.Task}
use Rattle.xbar_markers.proofs.{ServedSteps.{HasTakenTask, stop_taken, task_completed}, TakenTasks.{none_taken, one_sound, one_taken}}
use Rattle.xbar_markers.specs.declared.task.Task.TheVariants as task
use Rattle.xbar_markers.proofs.completing.Worker+Desk+G.complete_next.Goals.{then-wait, else-wait}
use Rattle.xbar_markers.proofs.completing.Worker+Desk+G.complete_next.Goals as goal

pub returns-in-None-clause-served : goal.returns-in-None-clause-served
returns-in-None-clause-served g c =
    let d = c.args.self.now.desk in
    let share = c.args.share.now in
    elim c.if-wait.branch [
      | then-wait w ↦ none_taken d share c.if-wait.share w.take-task.new.ticket w.take-task.result w.share-is (sym w.task-is ∙ c.in-None.is)
          w.take-task.ensures.none
      | else-wait w ↦ none_taken d share c.if-wait.share w.try_take-task.new.ticket w.try_take-task.result w.share-is (sym w.task-is ∙ c.in-None.is)
          w.try_take-task.ensures.none
    ]

pub returns-in-Some-Stop-clause-served : goal.returns-in-Some-Stop-clause-served
returns-in-Some-Stop-clause-served g c =
    let d = c.args.self.now.desk in
    let share = c.args.share.now in
    let is : c.if-wait.task ≡ Some task.Stop = c.in-Some-Stop.is ∙ ap (λ (t : Task). Some t) c.in-Some-Stop.field-0-is in
    let taken : HasTakenTask task.Stop share c.if-wait.share =
    elim c.if-wait.branch [
      | then-wait w ↦ one_taken share c.if-wait.share w.take-task.new.ticket w.take-task.result task.Stop w.share-is (sym w.task-is ∙ is)
          w.take-task.ensures.taken
      | else-wait w ↦ one_taken share c.if-wait.share w.try_take-task.new.ticket w.try_take-task.result task.Stop w.share-is (sym w.task-is ∙ is)
          w.try_take-task.ensures.taken
    ] in
    stop_taken d share c.if-wait.share taken c.requires.serve.ready.idle

pub returns-in_ok-put_behind-in-Some-Complete-clause-served :
    goal.returns-in_ok-put_behind-in-Some-Complete-clause-served
returns-in_ok-put_behind-in-Some-Complete-clause-served g c =
    let d = c.args.self.now.desk in
    let share = c.args.share.now in
    let call = c.in-Some-Complete.call in
    let is : c.if-wait.task ≡ Some (task.Complete call) = c.in-Some-Complete.is ∙ ap (λ (t : Task). Some t) c.in-Some-Complete.field-0-is in
    let taken : HasTakenTask (task.Complete call) share c.if-wait.share =
    elim c.if-wait.branch [
      | then-wait w ↦ one_taken share c.if-wait.share w.take-task.new.ticket w.take-task.result (task.Complete call) w.share-is (sym w.task-is ∙ is)
          w.take-task.ensures.taken
      | else-wait w ↦ one_taken share c.if-wait.share w.try_take-task.new.ticket w.try_take-task.result (task.Complete call) w.share-is (sym w.task-is ∙ is)
          w.try_take-task.ensures.taken
    ] in
    let tone : HasDialTone call =
    elim c.if-wait.branch [
      | then-wait w ↦ one_sound w.take-task.result (task.Complete call) (sym w.task-is ∙ is) w.take-task.ensures.sound
      | else-wait w ↦ one_sound w.try_take-task.result (task.Complete call) (sym w.task-is ∙ is) w.try_take-task.ensures.sound
    ] in
    task_completed d c.complete.new.self.desk call c.complete.result share c.if-wait.share record c.if-wait.share { ended = c.put_behind.new.list } taken
    record { calls = refl; tasks = refl; kept = refl; ended = c.in_ok-put_behind-in-Some-Complete.ensures }
    tone c.complete.ensures
