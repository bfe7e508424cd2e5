use Rattle.std.proofs.Common.{[], None}
use Rattle.xbar_page.proofs.SectionPlaces.{length-sections, shown_at}
use Rattle.xbar_page.proofs.laws.each_turn_has_its_section.Goals as goal

pub returns-clause-count : goal.returns-clause-count
returns-clause-count c = λ plan records. length-sections plan [] None records

pub returns-clause-shown : goal.returns-clause-shown
returns-clause-shown c = λ plan records place section is. shown_at plan [] None records place section is
