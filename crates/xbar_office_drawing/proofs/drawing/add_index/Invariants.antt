use Rattle.std.proofs.Common.{◌≡◌, ◌++◌, drop, flat_map, map, string_bytes}
use Rattle.xbar_office_drawing.specs.{declared.placing.TheConstants.INDEX, Index.entry, Figures.{laid_out, part_text}}
use Rattle.xbar_office_drawing.proofs.drawing.add_index.Given as goal

abbrev pub invariant-loop-k : goal.invariant-loop-k
invariant-loop-k l =
    string_bytes l.text ++ flat_map part_text (laid_out INDEX 920 l.k (map (entry l.plan) (drop l.k l.paths)))
    ≡ string_bytes l.initial.text ++ flat_map part_text (laid_out INDEX 920 0 (map (entry l.plan) l.paths))
