use Rattle.xbar_office_text.proofs.OfficeLines.{first_lines_of_office}
use Rattle.xbar_office_text.proofs.laws.each_path_has_one_line.Goals as goal

pub returns : goal.returns
returns c = first_lines_of_office
