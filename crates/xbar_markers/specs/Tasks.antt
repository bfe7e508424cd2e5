use Rattle.std.specs.Prelude.{⊤}
use Rattle.xbar_markers.specs.declared.call_records.CallRecords.{CallRecords}
use Rattle.xbar_markers.specs.declared.task.Task as declared
use Rattle.xbar_markers.specs.declared.task.Task.TheVariants.{Complete, Stop}

-- a task as contracts see it: its call is a call's records
abbrev pub Task : Type 0
Task = declared.Task CallRecords

-- a call that is to be completed is sound
abbrev pub IsSound : {C : Type 0} → (C → Type 0) → declared.Task C → Type 0
IsSound sound (Complete c) = sound c
IsSound sound Stop = ⊤
