-- a text that is made part by part
use Rattle.std.proofs.Common.{◌≡◌, ℕ, List, [], ◌∷◌, ◌++◌, append-nil, sym, ◌∙◌, ap}
use Rattle.std.{specs.List.concat, proofs.lemmas.List.Folds.concat-append}

pub record IsMadeOf (parts : List (List ℕ)) (text : List ℕ) : Type 0 where
  pub is : text ≡ concat parts

pub empty : (text : List ℕ) → text ≡ [] → IsMadeOf [] text
empty text none = record { is = none }

-- one part more
pub then : (parts : List (List ℕ)) (now next part : List ℕ) → IsMadeOf parts now → next ≡ now ++ part → IsMadeOf (parts ++ part ∷ []) next
then parts now next part so_far adds = record {
  is =
      adds ∙ ap (λ (text : List ℕ). text ++ part) so_far.is
      ∙ ap (λ (last : List ℕ). concat parts ++ last) (sym (append-nil part))
      ∙ sym (concat-append parts (part ∷ []));
}
