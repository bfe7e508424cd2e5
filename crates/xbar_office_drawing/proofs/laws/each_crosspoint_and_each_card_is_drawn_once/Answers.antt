use Rattle.xbar_office_drawing.proofs.{Told.no_shapes, ToldDrawing.drawing_told}
use Rattle.xbar_office_drawing.proofs.laws.each_crosspoint_and_each_card_is_drawn_once.Goals as goal

pub returns-clause-drawn : goal.returns-clause-drawn
returns-clause-drawn c = drawing_told

pub returns-clause-copied : goal.returns-clause-copied
returns-clause-copied c = no_shapes
