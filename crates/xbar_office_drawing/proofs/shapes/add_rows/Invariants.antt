use Rattle.std.proofs.Common.{◌≡◌, ◌++◌, flat_map, string_bytes}
use Rattle.{std.specs.List.range_with_len, xbar_office_drawing.specs.{Shapes.frame_row, Figures.figures_text}}
use Rattle.xbar_office_drawing.proofs.shapes.add_rows.Given as goal

abbrev pub invariant-loop-switch : goal.invariant-loop-switch
invariant-loop-switch l = string_bytes l.text ≡ string_bytes l.initial.text ++ figures_text (flat_map (frame_row l.frame l.class) (range_with_len 0 l.switch))
