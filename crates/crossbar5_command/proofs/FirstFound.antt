-- The first element of a list that passes a test.
use Rattle.std.proofs.Common.{◌≡◌, ◌∙◌, ap, refl, sym, cond, Bool, true, false, true≢false, List, [], ◌∷◌, Option, Some, find, is_some, option_map, unwrap_or}
use Rattle.std.{specs.List.list_all, proofs.lemmas.Bool.and_parts}

-- one more at the front, of a list and of what f makes of it
pub found_first : {X Y : Type 0} (f : X → Y) (here same : Bool) → here ≡ same → (x : X) (found : Option X) (rest : Option Y)
    → rest ≡ option_map f found → cond here (Some (f x)) rest ≡ option_map f (cond same (Some x) found)
found_first f here same is x found rest later = ap (λ b. cond b (Some (f x)) rest) is ∙ go same
  where
    go : (b : Bool) → cond b (Some (f x)) rest ≡ option_map f (cond b (Some x) found)
    go true = refl
    go false = later

-- it passes, and so it does what all pass
pub found_passes : {X : Type 0} (p q : X → Bool) (xs : List X) (x : X) → list_all q xs ≡ true → find p xs ≡ Some x → (p x ≡ true) × (q x ≡ true)
found_passes p q [] x all is = absurd (true≢false (sym (ap is_some is)))
found_passes p q (first ∷ rest) x all is = go (p first) refl is (found_passes p q rest x (and_parts (q first) _ all).1)
  where
    go : (here : Bool) → p first ≡ here → cond here (Some first) (find p rest) ≡ Some x → (find p rest ≡ Some x → (p x ≡ true) × (q x ≡ true))
        → (p x ≡ true) × (q x ≡ true)
    go true passes is later =
        let is_first : first ≡ x = ap (λ found. unwrap_or found first) is in
        (ap p (sym is_first) ∙ passes, ap q (sym is_first) ∙ (and_parts (q first) _ all).0)
    go false fails is later = later is
