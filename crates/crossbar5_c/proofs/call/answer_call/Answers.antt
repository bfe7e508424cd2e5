use Rattle.std.proofs.Common.{◌≡◌, Some, rules, slice_get}
use Rattle.{crossbar5_task.specs.Tasks.tasks, crossbar5_c.specs.Answer.{Does, LacksMemory, RefusesMarkers}}
use Rattle.crossbar5_c.proofs.call.answer_call.Goals as goal

pub returns-in-Ok : goal.returns-in-Ok
returns-in-Ok c =
    let is : slice_get tasks c.args.number ≡ Some c.in-Some.task = search rules in
    let done = c.in-Ok.ensures in
    Does c.in-Some.task c.in-Some-kinds_for.kinds done.0 is c.in-Some-kinds_for.ensures.named done.1 done.2

pub returns-in_default-kinds_for : goal.returns-in_default-kinds_for
returns-in_default-kinds_for c =
    let is : slice_get tasks c.args.number ≡ Some c.in-Some.task = search rules in
    RefusesMarkers c.in-Some.task is (search rules) (search rules) (search rules)

pub returns-in-Err : goal.returns-in-Err
returns-in-Err c =
    let is : slice_get tasks c.args.number ≡ Some c.in-Some.task = search rules in
    LacksMemory c.in-Some.task is (search rules) (search rules) (search rules)
