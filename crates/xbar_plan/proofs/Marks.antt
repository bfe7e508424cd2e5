use Rattle.std.proofs.Common.{◌≡◌, ◌≢◌, ℕ, ◌+◌, ◌<◌, Bool, true, false, List, [], ◌∷◌, ◌++◌, length, get_or, set, take, refl, sym, ◌∙◌, ap, subst, nat_eq, ◌||◌}
use Rattle.std.proofs.Common.{get_or-set_same, get_or-set_other, eqb-true}
use Rattle.{std.{specs.List.list_any, proofs.lemmas.List.{take_more, Folds.list_any-append}}, xbar_plan.proofs.Repeats.nat_eq-itself}

-- the numbers up to the next one
next : (xs : List ℕ) (i x : ℕ) → i < length xs → x ≡ get_or xs i 0 → take (i + 1) xs ≡ take i xs ++ x ∷ []
next xs i x within read = take_more xs i 0 within ∙ ap (λ (y : ℕ). take i xs ++ y ∷ []) (sym read)

-- a table that marks the numbers so far marks one more after its mark is set
pub marks_more : (seen : List Bool) (xs : List ℕ) (i x : ℕ) → i < length xs → x ≡ get_or xs i 0 → x < length seen
    → ((k : ℕ) → get_or seen k false ≡ list_any (λ n. nat_eq n k) (take i xs)) → (k : ℕ)
    → get_or (set seen x true) k false ≡ list_any (λ n. nat_eq n k) (take (i + 1) xs)
marks_more seen xs i x within read there marks k = of (nat_eq x k) refl where
  before : Bool
  before = list_any (λ n. nat_eq n k) (take i xs)

  more : list_any (λ n. nat_eq n k) (take (i + 1) xs) ≡ (before || (nat_eq x k || false))
  more = ap (list_any (λ n. nat_eq n k)) (next xs i x within read) ∙ list_any-append (λ n. nat_eq n k) (take i xs) (x ∷ [])

  last : (b : Bool) → (b || (true || false)) ≡ true
  last true = refl
  last false = refl

  same : (b : Bool) → (b || (false || false)) ≡ b
  same true = refl
  same false = refl

  of : (b : Bool) → nat_eq x k ≡ b → get_or (set seen x true) k false ≡ list_any (λ n. nat_eq n k) (take (i + 1) xs)
  of true e =
      let is : x ≡ k = eqb-true x k e in
      subst (λ (m : ℕ). get_or (set seen x true) m false ≡ true) is (get_or-set_same seen x true false there)
      ∙ sym (more ∙ ap (λ (b : Bool). before || (b || false)) e ∙ last before)
  of false e =
      let other : k ≢ x = λ is. let no : true ≡ false = sym (nat_eq-itself x) ∙ ap (nat_eq x) (sym is) ∙ e in cc in
      get_or-set_other seen x k true false other ∙ marks k
      ∙ sym (more ∙ ap (λ (b : Bool). before || (b || false)) e ∙ same before)
