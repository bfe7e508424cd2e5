use Rattle.std.specs.Prelude.{ℕ, List, ◌++◌, codes, if◌then◌else◌}
use Rattle.xbar_equip.specs.declared.path.Path.{Path}
use Rattle.xbar_office.specs.Standing.{ends_at_register}
use Rattle.xbar_office_text.specs.PathLines.{path_lines}
use Rattle.xbar_plan.specs.Tables.{Tables}
use Rattle.xbar_office_text.specs.Ends.{end_text}

-- an empty line, and whose a path is
unfoldable pub heading : Tables → Path → List ℕ
heading plan path =
    if ends_at_register plan path then codes "\nA REGISTER'S PATH\n" else codes "\nA CALL'S PATH\n"

-- a path in its eight lines, below a heading
unfoldable pub picture : Tables → Path → List ℕ
picture plan path = heading plan path ++ path_lines path (end_text plan path)
