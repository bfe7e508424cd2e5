-- The totals of what passes know, when one of them changes, or one alone has every part.
use Rattle.std.proofs.Common.{◌≡◌, ◌≢◌, ℕ, zero, suc, ◌+◌, ◌<◌, List, [], ◌∷◌, ◌++◌, set, sym, refl, ap, subst, ⊎_elim, arith, sum_by}
use mathlib.Core.Option.{some, some-injective, some-ne-none}
use lib.ListN.{get_elem?}
use Rattle.{std.proofs.lemmas.List.Sums.sum_by-cons, atomic_table.proofs.Lists.{at_set, at_snoc}, fair_queue.specs.{declared.rule.Hand.Hand, Rule.IdleIsEmpty}}

module _ {X : Type 0} where
  -- the total after a change of one pass
  pub total_set : (f : Hand X → ℕ) (views : List (Hand X)) (pass : ℕ) (v w : Hand X)
      → get_elem? views pass ≡ some v → sum_by f (set views pass w) + f v ≡ sum_by f views + f w
  total_set f [] pass v w at = absurd (some-ne-none v (sym at))
  total_set f (x ∷ xs) zero v w at =
      let same = ap f (some-injective x v at) in
      omega (arith, sum_by-cons f x xs, sum_by-cons f w xs)
  total_set f (x ∷ xs) (suc n) v w at =
      let rest = total_set f xs n v w at in
      omega (arith, sum_by-cons f x xs, sum_by-cons f x (set xs n w))

  -- one pass has no more than all together
  pub within_total : (f : Hand X → ℕ) (views : List (Hand X)) (pass : ℕ) (v : Hand X)
      → get_elem? views pass ≡ some v → f v < sum_by f views + 1
  within_total f [] pass v at = absurd (some-ne-none v (sym at))
  within_total f (x ∷ xs) zero v at =
      let same = ap f (some-injective x v at) in omega (arith, sum_by-cons f x xs)
  within_total f (x ∷ xs) (suc n) v at =
      let rest = within_total f xs n v at in omega (arith, sum_by-cons f x xs)

  -- the measure is 0 of each pass with no part
  abbrev pub IsZeroAtRest : (Hand X → ℕ) → List (Hand X) → Type 0
  IsZeroAtRest f views = (u : Hand X) (pass : ℕ) → get_elem? views pass ≡ some u → u.parts ≡ 0
      → f u ≡ 0

  -- then it is 0 of all together if no pass has a part
  nothing_total : (f : Hand X → ℕ) (views : List (Hand X)) → IsZeroAtRest f views
      → sum_by (λ (u : Hand X). u.parts) views ≡ 0 → sum_by f views ≡ 0
  nothing_total f [] idle none = refl
  nothing_total f (x ∷ xs) idle none =
      let parts = sum_by-cons (λ (u : Hand X). u.parts) x xs in
      let here : f x ≡ 0 = idle x 0 refl (omega arith) in
      let rest : sum_by f xs ≡ 0 = nothing_total f xs (λ u n at. idle u (suc n) at) (omega arith) in
      omega (arith, sum_by-cons f x xs)

  -- and if one pass has all parts, the total is that of this pass
  pub alone_total : (f : Hand X → ℕ) (views : List (Hand X)) (pass : ℕ) (v : Hand X)
      → IsZeroAtRest f views → get_elem? views pass ≡ some v
      → sum_by (λ (u : Hand X). u.parts) views ≡ v.parts → sum_by f views ≡ f v
  alone_total f [] pass v idle at all = absurd (some-ne-none v (sym at))
  alone_total f (x ∷ xs) zero v idle at all =
      let same = ap f (some-injective x v at) in
      let same_parts = ap (λ (u : Hand X). u.parts) (some-injective x v at) in
      let parts = sum_by-cons (λ (u : Hand X). u.parts) x xs in
      let rest : sum_by f xs ≡ 0 = nothing_total f xs (λ u n at'. idle u (suc n) at') (omega arith) in
      omega (arith, sum_by-cons f x xs)
  alone_total f (x ∷ xs) (suc n) v idle at all =
      let parts = sum_by-cons (λ (u : Hand X). u.parts) x xs in
      let low = within_total (λ (u : Hand X). u.parts) xs n v at in
      let here : f x ≡ 0 = idle x 0 refl (omega arith) in
      let rest : sum_by f xs ≡ f v =
      alone_total f xs n v (λ u m at'. idle u (suc m) at') at (omega arith) in
      omega (arith, sum_by-cons f x xs)

  -- passes with no part stay empty when one pass changes, and when one is added
  pub idle_set : (views : List (Hand X)) (pass : ℕ) (w : Hand X)
      → (w.parts ≡ 0 → (w.put ≡ []) × (w.taken ≡ [])) → IdleIsEmpty views
      → IdleIsEmpty (set views pass w)
  idle_set views pass w mine idle p u at none =
      ⊎_elim (λ (x : (p ≡ pass) × (w ≡ u)). subst
      (λ (y : Hand X). y.parts ≡ 0 → (y.put ≡ []) × (y.taken ≡ [])) x.1 mine none)
      (λ (x : (p ≢ pass) × (get_elem? views p ≡ some u)). idle p u x.1 none)
      (at_set views pass p w u at)

  pub idle_push : (views : List (Hand X)) (w : Hand X)
      → (w.parts ≡ 0 → (w.put ≡ []) × (w.taken ≡ [])) → IdleIsEmpty views
      → IdleIsEmpty (views ++ w ∷ [])
  idle_push views w mine idle p u at none =
      ⊎_elim (λ (x : get_elem? views p ≡ some u). idle p u x none)
      (λ (x : w ≡ u). subst (λ (y : Hand X). y.parts ≡ 0 → (y.put ≡ []) × (y.taken ≡ [])) x mine
      none) (at_snoc views w u p at)
