use Rattle.std.proofs.Common.{◌∙◌, flat_map}
use Rattle.xbar_office_drawing.specs.{Drawing.path_alone, Drawn.is_evidence, Office.office, PathInOffice.path_dots}
use Rattle.xbar_office_drawing.proofs.{Filters.{none_then, told_flat}, Told.{no_office, path_told}}
use Rattle.xbar_page.proofs.laws.each_stay_is_drawn_once.Goals as goal

pub returns : goal.returns
returns c = λ plan stays.
    none_then is_evidence (office plan) (flat_map (λ stay. path_alone plan stay.path) stays) (no_office plan)
    ∙ told_flat is_evidence (λ stay. path_alone plan stay.path) (λ stay. path_dots plan stay.path) stays (λ stay. path_told plan stay.path)
