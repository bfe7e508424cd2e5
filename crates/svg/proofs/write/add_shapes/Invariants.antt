use Rattle.std.proofs.Common.{◌≡◌, ◌++◌, map, take, flat_map, string_bytes}
use Rattle.svg.specs.Figure.{figure_of, figure_text}
use Rattle.svg.proofs.write.add_shapes.Given as goal

abbrev pub invariant-loop-shape : goal.invariant-loop-shape
invariant-loop-shape l = string_bytes l.text ≡ string_bytes l.initial.text ++ flat_map figure_text (map figure_of (take l.shape-index l.shapes))
