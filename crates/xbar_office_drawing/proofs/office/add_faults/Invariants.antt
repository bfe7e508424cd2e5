use Rattle.std.proofs.Common.{◌≡◌, ◌++◌, take, map, string_bytes}
use Rattle.xbar_office_drawing.specs.{Office.fault, Figures.figures_text}
use Rattle.xbar_office_drawing.proofs.office.add_faults.Given as goal

abbrev pub invariant-loop-link : goal.invariant-loop-link
invariant-loop-link l = string_bytes l.text ≡ string_bytes l.initial.text ++ figures_text (map fault (take l.link-index l.faults))
