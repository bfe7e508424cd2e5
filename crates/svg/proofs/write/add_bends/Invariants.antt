use Rattle.std.proofs.Common.{◌≡◌, ◌++◌, take, flat_map, string_bytes}
use Rattle.svg.specs.Figure.{bend_text}
use Rattle.svg.proofs.write.add_bends.Given as goal

abbrev pub invariant-loop-bend : goal.invariant-loop-bend
invariant-loop-bend l = string_bytes l.text ≡ string_bytes l.initial.text ++ flat_map bend_text (take l.bend-index l.bends)
