use Rattle.std.specs.declared.io.ErrorKind.{ErrorKind}
use Rattle.std.specs.declared.io.ErrorKind.TheVariants.{OutOfMemory}
use Rattle.crossbar5.specs.declared.engine_fault.EngineFault.{EngineFault}
use Rattle.crossbar5.specs.declared.engine_fault.EngineFault.TheVariants.{Memory, Device}
use Rattle.crossbar5_cli.specs.declared.ended.Ending.{Ending}
use Rattle.crossbar5_cli.specs.declared.ended.Ending.TheVariants.{NotText, Failed}

-- the ending if the words of the command line can't be read, by the kind of the system's error
abbrev pub words_ending : ErrorKind → Ending
words_ending OutOfMemory = Failed Memory
words_ending _ = NotText

-- the fault if the plan's file can't be opened, by the kind of the system's error
abbrev pub opening_fault : ErrorKind → EngineFault
opening_fault OutOfMemory = Memory
opening_fault _ = Device
