use Rattle.std.proofs.Common.{◌≡◌, ◌++◌, flat_map, string_bytes}
use Rattle.{std.specs.List.range_with_len, xbar_office_drawing.specs.{Office.two_frames, Figures.figures_text}}
use Rattle.xbar_office_drawing.proofs.office.add_frames.Given as goal

abbrev pub invariant-loop-frame : goal.invariant-loop-frame
invariant-loop-frame l = string_bytes l.text ≡ string_bytes l.initial.text ++ figures_text (flat_map two_frames (range_with_len 0 l.frame-counter))
