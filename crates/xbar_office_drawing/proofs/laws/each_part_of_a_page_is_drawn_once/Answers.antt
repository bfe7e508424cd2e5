use Rattle.xbar_office_drawing.proofs.Told.{card_told, no_office, path_told, switches_told}
use Rattle.xbar_office_drawing.proofs.laws.each_part_of_a_page_is_drawn_once.Goals as goal

pub returns-clause-office : goal.returns-clause-office
returns-clause-office c = no_office

pub returns-clause-path : goal.returns-clause-path
returns-clause-path c = path_told

pub returns-clause-switches : goal.returns-clause-switches
returns-clause-switches c = switches_told

pub returns-clause-card : goal.returns-clause-card
returns-clause-card c = card_told
