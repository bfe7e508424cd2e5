use Rattle.std.proofs.Common.{◌≡◌, ◌++◌, [], drop, take, string_bytes}
use Rattle.xbar_office_drawing.specs.{Figures.figures_text, Names.names_from}
use Rattle.xbar_office_drawing.proofs.names.add_names.Given as goal

abbrev pub invariant-loop-place : goal.invariant-loop-place
invariant-loop-place l =
    string_bytes l.text ++ figures_text (names_from l.plan (take l.place l.paths) (drop l.place l.paths))
    ≡ string_bytes l.initial.text ++ figures_text (names_from l.plan [] l.paths)
