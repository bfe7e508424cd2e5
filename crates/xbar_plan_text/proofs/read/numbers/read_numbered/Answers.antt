use Rattle.std.proofs.Common.{rules, ◌≡◌, true, false, length, sym, ◌∙◌, ap, Some, Err}
use Rattle.xbar_plan_text.specs.Texts.{is_line_count as is_count_of_lines}
use Rattle.xbar_plan_text.proofs.Items.{passed_on, station_reads, station_miscounted, station_numberless, station_lineless}
use Rattle.xbar_plan_text.proofs.read.numbers.read_numbered.Goals as goal

pub returns-then-not-is_line_count : goal.returns-then-not-is_line_count
returns-then-not-is_line_count c =
    let miscounted : is_count_of_lines c.args.version (length c.args.lines.now) ≡ false = search rules in
    station_miscounted c.args.version c.args.number.now c.args.lines.now miscounted

pub returns-in_default : goal.returns-in_default
returns-in_default c =
    station_numberless c.args.version c.args.number.now c.args.lines.now (sym c.read_number.ensures ∙ c.in_default.is)

pub returns-in_err-lines : goal.returns-in_err-lines
returns-in_err-lines c =
    let is : c.from_residual.result ≡ Err c.in_err-lines.field-0.0 = search rules in
    rw is (passed_on c.in_err-lines.field-0.0 (station_lineless c.args.version c.args.number.now c.args.lines.now _
    (sym c.read_number.ensures ∙ c.in-Some.is)) c.in_err-lines.ensures)

pub returns : goal.returns
returns c =
    let counted : is_count_of_lines c.args.version (length c.args.lines.now) ≡ true = search rules in
    station_reads c.args.version c.args.number.now c.args.lines.now _ _ counted (sym c.read_number.ensures ∙ c.in-Some.is) c.in_ok-lines.ensures
    ∙ ap (λ z. Some z) (sym c.new.ensures)
