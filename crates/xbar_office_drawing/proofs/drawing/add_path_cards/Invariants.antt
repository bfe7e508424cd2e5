use Rattle.std.proofs.Common.{◌≡◌, ◌++◌, drop, flat_map, map, string_bytes}
use Rattle.xbar_office_drawing.specs.{declared.placing.TheConstants.PATH_CARDS, Switches.path_card, Figures.{laid_out, part_text}}
use Rattle.xbar_office_drawing.proofs.drawing.add_path_cards.Given as goal

abbrev pub invariant-loop-k : goal.invariant-loop-k
invariant-loop-k l =
    string_bytes l.text ++ flat_map part_text (laid_out PATH_CARDS l.top l.k (map (path_card l.plan) (drop l.k l.paths)))
    ≡ string_bytes l.initial.text ++ flat_map part_text (laid_out PATH_CARDS l.top 0 (map (path_card l.plan) l.paths))
