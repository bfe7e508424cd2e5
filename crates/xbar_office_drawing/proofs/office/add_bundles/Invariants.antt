use Rattle.std.proofs.Common.{◌≡◌, ◌++◌, map, string_bytes}
use Rattle.{std.specs.List.range_with_len, xbar_office_drawing.specs.{Office.bundle, Figures.figures_text}}
use Rattle.xbar_office_drawing.proofs.office.add_bundles.Given as goal

abbrev pub invariant-loop-frames : goal.invariant-loop-frames
invariant-loop-frames l = string_bytes l.text ≡ string_bytes l.initial.text ++ figures_text (map bundle (range_with_len 0 l.frames))
