-- How runs end that do what is asked for.
use Rattle.std.specs.Prelude.{◌≡◌, ◌≢◌, ◌↔◌}
use Rattle.crossbar5_command.specs.declared.command_line.Work.{Work}
use Rattle.crossbar5_cli.specs.CheckedWork.{RefusesMarkers}
use Rattle.crossbar5_cli.specs.Endings.{IsOfRun}
use Rattle.crossbar5_cli.specs.declared.ended.Ending.{Ending}
use Rattle.crossbar5_cli.specs.declared.ended.Ending.TheVariants.{MarkersRefused}

-- how a run that does what is asked for may end: with refused markers exactly if they are refused,
-- else as a run of the engine
abbrev pub MayEndAsked : Work → Ending → Type 0
MayEndAsked work ending = ((ending ≡ MarkersRefused) ↔ RefusesMarkers work)
    × (ending ≢ MarkersRefused → IsOfRun ending)
