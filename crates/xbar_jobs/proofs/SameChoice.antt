use Rattle.std.proofs.Common.{◌≡◌, ℕ, ◌+◌, ◌-◌, ◌<◌, Bool, ◌∙◌, ap, arith, Option, Some, None, unwrap_or, option_map}
use Rattle.xbar_equip.{specs.First.{first_below, next_below, IsFirstBelow}, proofs.FirstNumber.{first_below-law, first_below-found, first_below-none}}

-- two tests that answer alike below a count find the same first number
pub first_below-same : (test other : ℕ → Bool) (count : ℕ) → ((j : ℕ) → j < count → test j ≡ other j) → first_below test count ≡ first_below other count
first_below-same test other count same = at (first_below other count) (first_below-law other count) where
  at : (found : Option ℕ) → IsFirstBelow other count found → first_below test count ≡ found
  at None none = first_below-none test count (λ j below. same j below ∙ none j below)
  at (Some k) is = first_below-found test count k is.0 (same k is.0 ∙ is.1) (λ j before. same j (omega (arith, is.0)) ∙ is.2 j before)

-- and the same next one
pub next_below-same : (test other : ℕ → Bool) (count k : ℕ) → ((j : ℕ) → j < count → test j ≡ other j) → next_below test count k ≡ next_below other count k
next_below-same test other count k same =
    ap (λ (found : Option ℕ). unwrap_or (option_map (λ j. k + 1 + j) found) k)
    (first_below-same (λ j. test (k + 1 + j)) (λ j. other (k + 1 + j)) (count - (k + 1)) (λ j below. same (k + 1 + j) (omega arith)))
