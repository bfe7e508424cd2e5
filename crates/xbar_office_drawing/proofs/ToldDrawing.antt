-- The figures that show crosspoints and cards in a whole drawing.
use Rattle.std.proofs.Common.{◌≡◌, ℕ, ◌+◌, List, [], ◌∷◌, ◌++◌, refl, ap, ◌∙◌, append-nil, filter, flat_map, length, map}
use Rattle.{std.proofs.lemmas.List.Concat.flat_map-append, svg.specs.Figure.Figure, xbar_equip.specs.declared.path.Path.Path, xbar_plan.specs.Tables.Tables}
use Rattle.xbar_office_drawing.specs.{CardFace.{card_face, card_words}, Drawing.{cards_top, drawing_parts, office_with, paths_top}}
use Rattle.xbar_office_drawing.specs.declared.{owned_card.OwnedCard.OwnedCard, placing.{Rows.Rows, TheConstants.{CARDS, INDEX, PATH_CARDS}}}
use Rattle.xbar_office_drawing.specs.{Drawn.{figures_in, is_evidence, path_evidence}, Figures.{Part, laid_out}, Index.entry, PathInOffice.path_dots}
use Rattle.xbar_office_drawing.{specs.Switches.path_card, proofs.{Filters.told_then, Told.{card_told, no_entry, office_told, switches_told}}}

-- ---- parts that are laid out

told_laid_out : {A : Type 0} (rows : Rows) (top k : ℕ) (picture told : A → List Figure) → ((x : A) → filter is_evidence (picture x) ≡ told x)
    → (xs : List A) → filter is_evidence (figures_in (laid_out rows top k (map picture xs))) ≡ flat_map told xs
unfolding laid_out
told_laid_out rows top k picture told each [] = refl
told_laid_out rows top k picture told each (x ∷ xs) =
    told_then is_evidence (picture x) (figures_in (laid_out rows top (k + 1) (map picture xs))) (told x) (flat_map told xs) (each x)
    (told_laid_out rows top (k + 1) picture told each xs)

one_each : {A B : Type 0} (f : A → B) (xs : List A) → flat_map (λ x. f x ∷ []) xs ≡ map f xs
one_each f [] = refl
one_each f (x ∷ xs) = ap (λ t. f x ∷ t) (one_each f xs)

abbrev no_figures : Path → List Figure
no_figures path = []

none_each : (paths : List Path) → flat_map no_figures paths ≡ []
none_each [] = refl
none_each (path ∷ paths) = none_each paths

figures_in-append : (xs ys : List Part) → figures_in (xs ++ ys) ≡ figures_in xs ++ figures_in ys
figures_in-append xs ys = flat_map-append (λ (part : Part). part.figures) xs ys

-- ---- the drawing

pub drawing_told : (plan : Tables) (paths : List Path) (cards : List OwnedCard)
    → filter is_evidence (figures_in (drawing_parts plan paths cards)) ≡ flat_map (path_dots plan) paths ++ flat_map path_evidence paths ++ map card_words cards
unfolding drawing_parts
drawing_told plan paths cards =
    let index = laid_out INDEX 920 0 (map (entry plan) paths) in
    let path_parts = laid_out PATH_CARDS (paths_top (length paths)) 0 (map (path_card plan) paths) in
    let card_parts = laid_out CARDS (cards_top (length paths)) 0 (map card_face cards) in
    let first : List Part = record { across = 0; down = 0; figures = office_with plan paths } ∷ index in
    let dots = flat_map (path_dots plan) paths in
    let evidence = flat_map path_evidence paths in
    let in_index : filter is_evidence (figures_in index) ≡ [] =
    told_laid_out INDEX 920 0 (entry plan) no_figures (no_entry plan) paths ∙ none_each paths in
    let on_path_cards : filter is_evidence (figures_in path_parts) ≡ evidence =
    told_laid_out PATH_CARDS (paths_top (length paths)) 0 (path_card plan) path_evidence (switches_told plan) paths in
    let on_cards : filter is_evidence (figures_in card_parts) ≡ map card_words cards =
    told_laid_out CARDS (cards_top (length paths)) 0 card_face (λ card. card_words card ∷ []) card_told cards
    ∙ one_each card_words cards in
    let in_first : filter is_evidence (figures_in first) ≡ dots =
    told_then is_evidence (office_with plan paths) (figures_in index) dots [] (office_told plan paths) in_index ∙ append-nil dots in
    let in_both : filter is_evidence (figures_in (first ++ path_parts)) ≡ dots ++ evidence =
    ap (filter is_evidence) (figures_in-append first path_parts)
    ∙ told_then is_evidence (figures_in first) (figures_in path_parts) dots evidence in_first on_path_cards in
    ap (filter is_evidence) (figures_in-append (first ++ path_parts) card_parts)
    ∙ told_then is_evidence (figures_in (first ++ path_parts)) (figures_in card_parts) (dots ++ evidence) (map card_words cards) in_both on_cards
