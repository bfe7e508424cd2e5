-- What a test leaves of lists that are made of parts.
use Rattle.std.proofs.Common.{◌≡◌, Bool, List, [], ◌∷◌, ◌++◌, refl, ap, ◌∙◌, filter, flat_map, map}
use Rattle.std.proofs.lemmas.List.Elements.{filter-append}

module _ {X : Type 0} (p : X → Bool) where
  pub none_then : (xs ys : List X) → filter p xs ≡ [] → filter p (xs ++ ys) ≡ filter p ys
  none_then xs ys none = filter-append p xs ys ∙ ap (λ t. t ++ filter p ys) none

  pub none_in_both : (xs ys : List X) → filter p xs ≡ [] → filter p ys ≡ [] → filter p (xs ++ ys) ≡ []
  none_in_both xs ys none other = none_then xs ys none ∙ other

  pub none_flat : {A : Type 0} (f : A → List X) (xs : List A) → ((x : A) → filter p (f x) ≡ []) → filter p (flat_map f xs) ≡ []
  none_flat f [] none = refl
  none_flat f (x ∷ xs) none = none_in_both (f x) (flat_map f xs) (none x) (none_flat f xs none)

  pub none_map : {A : Type 0} (f : A → X) (xs : List A) → ((x : A) → filter p (f x ∷ []) ≡ []) → filter p (map f xs) ≡ []
  none_map f [] none = refl
  none_map f (x ∷ xs) none = none_in_both (f x ∷ []) (map f xs) (none x) (none_map f xs none)

  pub told_flat : {A : Type 0} (f told : A → List X) (xs : List A) → ((x : A) → filter p (f x) ≡ told x) → filter p (flat_map f xs) ≡ flat_map told xs
  told_flat f told [] each = refl
  told_flat f told (x ∷ xs) each =
      filter-append p (f x) (flat_map f xs) ∙ ap (λ t. t ++ filter p (flat_map f xs)) (each x) ∙ ap (λ t. told x ++ t) (told_flat f told xs each)

  pub told_then : (xs ys told other : List X) → filter p xs ≡ told → filter p ys ≡ other → filter p (xs ++ ys) ≡ told ++ other
  told_then xs ys told other first second = filter-append p xs ys ∙ ap (λ t. t ++ filter p ys) first ∙ ap (λ t. told ++ t) second
