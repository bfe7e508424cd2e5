-- The work that is asked for, once its markers are known to be valid.
use Rattle.std.specs.Prelude.{◌≡◌}
use Rattle.std.specs.String.{string_bytes}
use Rattle.xbar_markers.specs.CallMarkers.{AreCallMarkers}
use Rattle.crossbar5.specs.Kinds.{NamesFor, RefusesLetters}
use Rattle.crossbar5_command.specs.declared.command_line.Work.{Work}
use Rattle.crossbar5_command.specs.declared.command_line.Work.TheVariants as asked
use Rattle.crossbar5_cli.specs.declared.work.CheckedWork.{CheckedWork}
use Rattle.crossbar5_cli.specs.declared.work.CheckedWork.TheVariants.{Live, Task}

-- the markers that are asked for are refused. A task on records asks for none
abbrev pub RefusesMarkers : Work → Type 0
RefusesMarkers (asked.Task task letters) = RefusesLetters task (string_bytes letters)
RefusesMarkers (asked.Live dialling completing) = ¬ AreCallMarkers dialling completing

-- this is the work that is asked for, with its markers: a task's are those that the letters name
abbrev pub IsCheckedOf : Work → CheckedWork → Type 0
IsCheckedOf (asked.Task task letters) (Task same kinds) =
    (same ≡ task) × NamesFor task (string_bytes letters) kinds
IsCheckedOf (asked.Live dialling completing) (Live markers) =
    (markers.dialling ≡ dialling) × (markers.completing ≡ completing)
IsCheckedOf _ _ = ⊥
