use Rattle.std.specs.Prelude.{Bool, true, false, List, [], ◌∷◌}
use Rattle.crossbar5_task.specs.declared.task.DrawForm.TheVariants as draw
use Rattle.crossbar5_task.specs.declared.task.LookForm.TheVariants as look
use Rattle.crossbar5_task.specs.declared.task.WalkForm.TheVariants as walk
use Rattle.crossbar5_task.specs.declared.task.Task.{Task}
use Rattle.crossbar5_task.specs.declared.task.Task.TheVariants.{Audit, Draw, Look, Replay, Walk}

-- all tasks in the order of their numbers: the first has the number 0
abbrev pub tasks : List Task
tasks = Replay ∷ Walk walk.Each ∷ Walk walk.Short ∷ Walk walk.Json ∷ Audit
    ∷ Draw draw.Text ∷ Draw draw.Svg ∷ Draw draw.Page
    ∷ Look look.Words ∷ Look look.Json ∷ Look look.Svg ∷ []

-- the input of a replay, a walk and a look is rows, which markers do; that of others is records
abbrev pub is_on_rows : Task → Bool
is_on_rows Replay = true
is_on_rows (Walk form) = true
is_on_rows (Look form) = true
is_on_rows Audit = false
is_on_rows (Draw form) = false
