use Rattle.std.specs.Prelude.{List}
use Rattle.xbar_equip.specs.declared.path.Path.{Path}
use Rattle.xbar_plan.specs.Tables.{Tables}

-- an office: its plan and its set of paths
pub record State : Type 0 where
  pub plan : Tables
  pub paths : List Path
