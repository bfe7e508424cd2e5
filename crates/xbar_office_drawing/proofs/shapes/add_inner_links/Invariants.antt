use Rattle.std.proofs.Common.{◌≡◌, ◌++◌, map, string_bytes}
use Rattle.{std.specs.List.range_with_len, xbar_office_drawing.specs.{Shapes.inner_link, Figures.figures_text}}
use Rattle.xbar_office_drawing.proofs.shapes.add_inner_links.Given as goal

abbrev pub invariant-loop-link : goal.invariant-loop-link
invariant-loop-link l = string_bytes l.text ≡ string_bytes l.initial.text ++ figures_text (map (inner_link l.left l.right) (range_with_len 0 l.link))
