-- Drawings of the office after records.
use Rattle.std.specs.Prelude.{◌≡◌, ◌≢◌, ℕ, Option, List}
use Rattle.xbar_plan.specs.Tables.{Tables}
use Rattle.xbar_office.specs.Legal.{IsLegal, after}
use Rattle.xbar_office.specs.declared.reply.Record.{Record}
use Rattle.xbar_equip.specs.declared.path.Path.{Path}
use Rattle.xbar_office_text.specs.Text.{office_text}
use Rattle.xbar_office_drawing.specs.Drawing.{office_drawing}
use Rattle.xbar_page.specs.Page.{office_page}
use Rattle.xbar_report.specs.Sheet.{IsReport}
use Rattle.xbar_report.specs.Text.{records_text}
use Rattle.xbar_report.specs.declared.line.Counts.{Counts}
use Rattle.crossbar5.specs.declared.written.Status.{Status}
use Rattle.crossbar5.specs.declared.written.Status.TheVariants.{Fine}
use Rattle.crossbar5.specs.Audit.{AreRightCounts, IsAuditUnder, counts_after}
use Rattle.crossbar5_task.specs.declared.task.DrawForm.{DrawForm}
use Rattle.crossbar5_task.specs.declared.task.DrawForm.TheVariants.{Text, Svg, Page}

-- the drawing of an office after its records; a page shows the office after each of them
abbrev pub drawn : DrawForm → Tables → List Path → List Record → List ℕ
drawn Text plan paths records = office_text plan paths records
drawn Svg plan paths records = office_drawing plan paths records
drawn Page plan paths records = office_page plan records

-- under a plan's tables, the text is a drawing of the office after a text of records, or says what
-- is wrong with them; the status is that of an audit
pub record IsDrawUnder (form : DrawForm) (plan : Tables) (records text : List ℕ) (status : Status)
    : Type 0 where
  -- what an audit of these records writes
  pub told : List ℕ
  pub audit : IsAuditUnder plan records told status
  -- if the records are legal, with right counts or none, the office after them is drawn
  pub legal : (list : List Record) (counts : Option Counts) → IsReport list counts
      → records ≡ records_text list counts → IsLegal plan list
      → AreRightCounts counts (counts_after plan list)
      → (text ≡ drawn form plan (after plan list) list) × (status ≡ Fine)
  -- otherwise the text is what the audit writes
  pub refused : status ≢ Fine → text ≡ told
