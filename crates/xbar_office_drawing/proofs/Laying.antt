-- Parts that are laid out one after another, one more.
use Rattle.std.proofs.Common.{◌≡◌, ℕ, ◌+◌, ◌<◌, ◌≤◌, List, ◌∷◌, ◌++◌, drop, length, slice_index_or, sym, ap, ◌∙◌, append_assoc, append-nil, flat_map, map}
use Rattle.{std.proofs.lemmas.List.{at_drop_all, at_drop_more}, svg.specs.{Drawing.{group_end_text, group_text}, Figure.Figure}}
use Rattle.xbar_office_drawing.specs.{declared.placing.Rows.Rows, Figures.{figures_text, in_rows, laid_out, part_text}}

module _ {A : Type 0} (rows : Rows) (top : ℕ) (picture : A → List Figure) (items : List A) (at : ℕ) where
  pub next_part : (item : A) (text : List ℕ) → item ≡ slice_index_or items at item → at < length items
      → (((text ++ group_text (in_rows rows top at (picture item)).across (in_rows rows top at (picture item)).down) ++ figures_text (picture item))
      ++ group_end_text)
      ++ flat_map part_text (laid_out rows top (at + 1) (map picture (drop (at + 1) items)))
      ≡ text ++ flat_map part_text (laid_out rows top at (map picture (drop at items)))
  unfolding laid_out part_text
  next_part item text is below =
      let more = flat_map part_text (laid_out rows top (at + 1) (map picture (drop (at + 1) items))) in
      let place = in_rows rows top at (picture item) in
      let joined : (((text ++ group_text place.across place.down) ++ figures_text (picture item)) ++ group_end_text) ++ more ≡ text ++ (part_text place ++ more)
      = simp (append_assoc, append-nil) in
      joined ∙ ap (λ (e : A). text ++ flat_map part_text (laid_out rows top at (map picture (e ∷ drop (at + 1) items)))) is
      ∙ sym (at_drop_more (λ (left : List A). text ++ flat_map part_text (laid_out rows top at (map picture left))) items at item below)

  pub last_part : (text : List ℕ) → length items ≤ at → text ≡ text ++ flat_map part_text (laid_out rows top at (map picture (drop at items)))
  unfolding laid_out
  last_part text over =
      sym (append-nil text) ∙ sym (at_drop_all (λ (left : List A). text ++ flat_map part_text (laid_out rows top at (map picture left))) items at over)
