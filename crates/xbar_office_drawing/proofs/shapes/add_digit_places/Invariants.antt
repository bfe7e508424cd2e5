use Rattle.std.proofs.Common.{◌≡◌, ◌++◌, map, string_bytes}
use Rattle.{std.specs.List.range_with_len, xbar_office_drawing.specs.{Shapes.digit_place, Figures.figures_text}}
use Rattle.xbar_office_drawing.proofs.shapes.add_digit_places.Given as goal

abbrev pub invariant-loop-place : goal.invariant-loop-place
invariant-loop-place l = string_bytes l.text ≡ string_bytes l.initial.text ++ figures_text (map digit_place (range_with_len 0 l.place))
