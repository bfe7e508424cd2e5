-- texts that are added one after another
use Rattle.std.proofs.Common.{◌≡◌, ℕ, List, [], ◌∷◌, ◌++◌, append_assoc, append-nil, refl, sym, ◌∙◌, ap}
use Rattle.std.specs.List.{concat}

-- a text is the first one with these after it
pub record Has (first : List ℕ) (pieces : List (List ℕ)) (text : List ℕ) : Type 0 where
  pub is : text ≡ first ++ concat pieces

pub has_none : (first : List ℕ) → Has first [] first
has_none first = record { is = sym (append-nil first) }

joined : (before more : List (List ℕ)) → concat (before ++ more) ≡ concat before ++ concat more
joined [] more = refl
joined (text ∷ before) more = ap (λ (later : List ℕ). text ++ later) (joined before more) ∙ sym (append_assoc text (concat before) (concat more))

module _ (first text next : List ℕ) (before : List (List ℕ)) (has : Has first before text) where
  pub has_more : (more : List (List ℕ)) → next ≡ text ++ concat more → Has first (before ++ more) next
  has_more more adds = record {
    is =
        adds
        ∙ ap (λ (t : List ℕ). t ++ concat more) has.is
        ∙ append_assoc first (concat before) (concat more)
        ∙ ap (λ (t : List ℕ). first ++ t) (sym (joined before more));
  }

  pub has_one : (piece : List ℕ) → next ≡ text ++ piece → Has first (before ++ piece ∷ []) next
  has_one piece adds = has_more (piece ∷ []) (adds ∙ ap (λ (t : List ℕ). text ++ t) (sym (append-nil piece)))
