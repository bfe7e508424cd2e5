use Rattle.std.specs.Prelude.{◌≡◌, ◌⊎◌}
use Rattle.clap.specs.Words.{kind_of}
use Rattle.clap.specs.declared.error.kind.ErrorKind.{ErrorKind}
use Rattle.clap.specs.declared.error.kind.ErrorKind.TheVariants.{DisplayHelp, DisplayVersion}
use Rattle.crossbar5.specs.declared.engine_fault.EngineFault.TheVariants.{Memory, Device}
use Rattle.crossbar5_command.specs.declared.command_fault.CommandFault.{CommandFault}
use Rattle.crossbar5_command.specs.declared.command_fault.CommandFault.TheVariants as command
use Rattle.crossbar5_cli.specs.declared.ended.Ending.{Ending}
use Rattle.crossbar5_cli.specs.declared.ended.Ending.TheVariants.{Printed, Refused, Failed}
use Rattle.crossbar5_cli.specs.declared.help.Stream.{Stream}
use Rattle.crossbar5_cli.specs.declared.help.Stream.TheVariants.{Output, Errors}

-- the stream of clap's text of this kind: standard output for help and the version
abbrev pub stream_of : ErrorKind → Stream
stream_of DisplayHelp = Output
stream_of DisplayVersion = Output
stream_of _ = Errors

-- how a run may end that writes clap's text to a stream: words that are refused are refused
-- whether it is written or not
abbrev pub MayEndOn : Stream → Ending → Type 0
MayEndOn Errors ending = ending ≡ Refused
MayEndOn Output ending =
    (ending ≡ Printed) ⊎ (ending ≡ Failed Device) ⊎ (ending ≡ Failed Memory)

-- how a run may end whose words ask for nothing to be done
abbrev pub MayEndOf : CommandFault → Ending → Type 0
MayEndOf command.Memory ending = ending ≡ Failed Memory
MayEndOf (command.Refused error) ending = MayEndOn (stream_of (kind_of error)) ending
