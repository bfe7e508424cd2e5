use Rattle.std.proofs.Common.{take, string_bytes}
use Rattle.xbar_look.{specs.Markers.marker_objects, proofs.Told.AreTold}
use Rattle.xbar_look.proofs.markers.add_listed_markers.Given as goal

abbrev pub invariant-loop-number : goal.invariant-loop-number
invariant-loop-number l = AreTold (marker_objects l.words 0 (take l.number l.markers)) (string_bytes l.initial.text) (string_bytes l.text) l.any
