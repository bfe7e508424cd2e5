-- Figures added one after another.
use Rattle.std.proofs.Common.{◌≡◌, ℕ, ◌+◌, List, [], ◌∷◌, ◌++◌, arith, ap, ◌∙◌, append_assoc, append-nil, flat_map, map}
use Rattle.std.{specs.List.range_with_len, proofs.lemmas.List.{Concat.flat_map-append, FromFn.map-range_with_len_more}}
use Rattle.{xbar_office_text.proofs.Ranges.flat_map_range_more, svg.specs.{Drawing.{group_end_text, named_group_text}, Figure.{Figure, figure_text}}}
use Rattle.xbar_office_drawing.specs.{Figures.figures_text, Shapes.named_text}

pub map_longer : (f : ℕ → Figure) (n : ℕ) → figures_text (map f (range_with_len 0 (n + 1))) ≡ figures_text (map f (range_with_len 0 n)) ++ figure_text (f n)
map_longer f n =
    ap figures_text (map-range_with_len_more f 0 n n (omega arith)) ∙ flat_map-append figure_text (map f (range_with_len 0 n)) (f n ∷ [])
    ∙ ap (λ t. figures_text (map f (range_with_len 0 n)) ++ t) (append-nil (figure_text (f n)))

pub flat_map_longer : (f : ℕ → List Figure) (n : ℕ)
    → figures_text (flat_map f (range_with_len 0 (n + 1))) ≡ figures_text (flat_map f (range_with_len 0 n)) ++ figures_text (f n)
flat_map_longer f n = ap figures_text (flat_map_range_more f n) ∙ flat_map-append figure_text (flat_map f (range_with_len 0 n)) (f n)

pub all_joined : (text : List ℕ) (a b c d e : List Figure)
    → ((((text ++ figures_text a) ++ figures_text b) ++ figures_text c) ++ figures_text d) ++ figures_text e ≡ text ++ figures_text (a ++ b ++ c ++ d ++ e)
all_joined text a b c d e = simp (flat_map-append, append_assoc)

pub named_joined : (text name : List ℕ) (a : Figure) (b c : List Figure)
    → ((((text ++ named_group_text name) ++ figure_text a) ++ figures_text b) ++ figures_text c) ++ group_end_text ≡ text ++ named_text name (a ∷ b ++ c)
unfolding named_text
named_joined text name a b c = simp (flat_map-append, append_assoc, append-nil)

pub card_joined : (text : List ℕ) (a b c d e f : List Figure)
    → (((((text ++ figures_text a) ++ figures_text b) ++ figures_text c) ++ figures_text d) ++ figures_text e) ++ figures_text f
    ≡ text ++ figures_text (a ++ b ++ c ++ d ++ e ++ f)
card_joined text a b c d e f = simp (flat_map-append, append_assoc)
