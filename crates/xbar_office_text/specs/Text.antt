use Rattle.std.specs.Prelude.{ℕ, List, [], ◌∷◌, flat_map}
use Rattle.std.specs.List.{concat}
use Rattle.xbar_equip.specs.declared.path.Path.{Path}
use Rattle.xbar_office.specs.declared.reply.Record.{Record}
use Rattle.xbar_plan.specs.Tables.{Tables}
use Rattle.xbar_office_text.specs.Cards.{cards_of}
use Rattle.xbar_office_text.specs.Faults.{faults_of, fault_lines}
use Rattle.xbar_office_text.specs.Glance.{glance}
use Rattle.xbar_office_text.specs.Picture.{picture}

-- an office after its records: its paths at a glance, each of them in its eight lines, the links
-- that are out of order, and the trouble cards
unfoldable pub office_text : Tables → List Path → List Record → List ℕ
office_text plan paths records =
    concat (glance plan paths ∷ flat_map (picture plan) paths ∷ fault_lines (faults_of plan)
    ∷ flat_map cards_of records ∷ [])
