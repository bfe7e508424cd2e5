use Rattle.xbar_office_text.proofs.OfficeLines.{titles_of_office}
use Rattle.xbar_office_text.proofs.laws.each_card_is_drawn_once.Goals as goal

pub returns : goal.returns
returns c = titles_of_office
