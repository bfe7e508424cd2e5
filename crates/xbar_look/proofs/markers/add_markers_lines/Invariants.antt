use Rattle.std.proofs.Common.{◌≡◌, ◌++◌, take, string_bytes}
use Rattle.xbar_look.specs.Lines.{markers_lines}
use Rattle.xbar_look.proofs.markers.add_markers_lines.Given as goal

abbrev pub invariant-loop-number : goal.invariant-loop-number
invariant-loop-number l = string_bytes l.text ≡ string_bytes l.initial.text ++ markers_lines l.words 0 (take l.number l.markers)
