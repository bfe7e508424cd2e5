-- The names of the paths that are left: one more is done, and none is left.
use Rattle.std.proofs.Common.{◌≡◌, ℕ, ◌+◌, ◌<◌, ◌≤◌, List, [], ◌∷◌, ◌++◌, drop, take, length, slice_index_or, sym, ap, ◌∙◌, append_assoc, append-nil}
use Rattle.{std.proofs.lemmas.List.{at_drop_all, at_drop_more, take_more, Concat.flat_map-append}, svg.specs.Figure.figure_text}
use Rattle.{xbar_equip.specs.declared.path.Path.Path, xbar_plan.specs.Tables.Tables}
use Rattle.xbar_office_drawing.specs.{Figures.figures_text, Names.{names_after, names_from}}

-- the items before an index, and the one there, are the items before the next index
pub take_one_more : {A : Type 0} (items : List A) (at : ℕ) (item : A) → item ≡ slice_index_or items at item → at < length items
    → take at items ++ item ∷ [] ≡ take (at + 1) items
take_one_more {A} items at item is below = ap (λ (e : A). take at items ++ e ∷ []) is ∙ sym (take_more items at item below)

pub next_names : (plan : Tables) (items : List Path) (at : ℕ) (item : Path) (text : List ℕ) → item ≡ slice_index_or items at item → at < length items
    → (text ++ figures_text (names_after plan (take at items) item)) ++ figures_text (names_from plan (take (at + 1) items) (drop (at + 1) items))
    ≡ text ++ figures_text (names_from plan (take at items) (drop at items))
next_names plan items at item text is below =
    let later = names_from plan (take (at + 1) items) (drop (at + 1) items) in
    append_assoc text (figures_text (names_after plan (take at items) item)) (figures_text later)
    ∙ ap (λ (t : List ℕ). text ++ t) (sym (flat_map-append figure_text (names_after plan (take at items) item) later))
    ∙ ap (λ (earlier : List Path). text ++ figures_text (names_after plan (take at items) item ++ names_from plan earlier (drop (at + 1) items)))
    (sym (take_one_more items at item is below))
    ∙ ap (λ (e : Path). text ++ figures_text (names_from plan (take at items) (e ∷ drop (at + 1) items))) is
    ∙ sym (at_drop_more (λ (left : List Path). text ++ figures_text (names_from plan (take at items) left)) items at item below)

pub no_names : (plan : Tables) (items : List Path) (at : ℕ) (text : List ℕ) → length items ≤ at
    → text ≡ text ++ figures_text (names_from plan (take at items) (drop at items))
no_names plan items at text over =
    sym (append-nil text) ∙ sym (at_drop_all (λ (left : List Path). text ++ figures_text (names_from plan (take at items) left)) items at over)
