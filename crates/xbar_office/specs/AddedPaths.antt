use Rattle.std.specs.Prelude.{ℕ, Option, Some, None}
use Rattle.xbar_equip.specs.declared.path.Path.{Path}
use Rattle.xbar_office.specs.declared.reply.End.{End}
use Rattle.xbar_office.specs.declared.reply.End.TheVariants.{DialTone, Connected}
use Rattle.xbar_office.specs.declared.trial.CallPaths.{CallPaths}

-- the paths that a job with this end adds, if any
abbrev pub added_by : End → Option CallPaths
added_by (DialTone path trial) = Some (record { calling = path; called = None })
added_by (Connected calling called trial) = Some (record { calling = calling; called = called })
added_by _ = None

-- the number of paths of a call with this called path: one, or two inside the office
abbrev pub path_count_with : Option Path → ℕ
path_count_with None = 1
path_count_with (Some called) = 2

-- the number of paths of a call
abbrev pub call_count : CallPaths → ℕ
call_count call = path_count_with call.called

-- the number of paths that are added, if any
abbrev pub added_count : Option CallPaths → ℕ
added_count None = 0
added_count (Some call) = call_count call
