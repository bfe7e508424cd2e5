use Rattle.std.proofs.Common.{◌≡◌, ◌++◌, drop, flat_map, map, string_bytes}
use Rattle.xbar_office_drawing.specs.{declared.placing.TheConstants.CARDS, CardFace.card_face, Figures.{laid_out, part_text}}
use Rattle.xbar_office_drawing.proofs.drawing.add_trouble_cards.Given as goal

abbrev pub invariant-loop-k : goal.invariant-loop-k
invariant-loop-k l =
    string_bytes l.text ++ flat_map part_text (laid_out CARDS l.top l.k (map card_face (drop l.k l.cards)))
    ≡ string_bytes l.initial.text ++ flat_map part_text (laid_out CARDS l.top 0 (map card_face l.cards))
