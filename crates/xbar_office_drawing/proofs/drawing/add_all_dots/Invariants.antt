use Rattle.std.proofs.Common.{◌≡◌, ◌++◌, take, flat_map, string_bytes}
use Rattle.xbar_office_drawing.specs.{Figures.figures_text, PathInOffice.path_dots}
use Rattle.xbar_office_drawing.proofs.drawing.add_all_dots.Given as goal

abbrev pub invariant-loop-path : goal.invariant-loop-path
invariant-loop-path l = string_bytes l.text ≡ string_bytes l.initial.text ++ figures_text (flat_map (path_dots l.plan) (take l.path-index l.paths))
