use Rattle.std.specs.Prelude.{Option, Some, None, List}
use Rattle.xbar_equip.specs.Paths.{with_path}
use Rattle.xbar_equip.specs.declared.path.Path.{Path}

-- the set with the path added, if there is one
abbrev pub with_chosen : List Path → Option Path → List Path
with_chosen paths None = paths
with_chosen paths (Some path) = with_path paths path
