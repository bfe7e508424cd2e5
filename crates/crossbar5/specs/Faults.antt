use Rattle.std.specs.Prelude.{⊤}
use Rattle.counted_io.specs.declared.read_fault.ReadFault.{ReadFault}
use Rattle.counted_io.specs.declared.read_fault.ReadFault.TheVariants as read
use Rattle.counted_io.specs.declared.write_fault.WriteFault.{WriteFault}
use Rattle.counted_io.specs.declared.write_fault.WriteFault.TheVariants as write
use Rattle.crossbar5.specs.declared.engine_fault.EngineFault.{EngineFault}
use Rattle.crossbar5.specs.declared.engine_fault.EngineFault.TheVariants.{Memory, Device, Long}

-- the engine's fault for a fault of reading
abbrev pub of_read : ReadFault → EngineFault
of_read read.Memory = Memory
of_read read.Device = Device
of_read read.Long = Long

-- the engine's fault for a fault of writing
abbrev pub of_write : WriteFault → EngineFault
of_write write.Device = Device

-- a fault that is found before anything is written
abbrev pub ComesFirst : EngineFault → Type 0
ComesFirst Memory = ⊤
ComesFirst Long = ⊤
ComesFirst Device = ⊥
