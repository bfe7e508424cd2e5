use Rattle.std.proofs.Common.{◌≡◌, ℕ, zero, suc, ◌+◌, ◌-◌, ◌<◌, ◌≤◌, ◌⊎◌, Bool, true, false, inl, inr, refl, sym, ◌∙◌, ap, arith, Option, Some, None}
use Rattle.std.proofs.Common.{MatchOption, unwrap_or, if◌then◌else◌, option_map, true≢false}
use Rattle.{std.proofs.lemmas.Bool.cases_lt, xbar_equip.specs.First.{first_from, first_below, next_below, IsFirstBelow, IsNextBelow}}

-- the first number from k on, among `count`, that passes; or none of them passes
pub record IsFirst (test : ℕ → Bool) (k count r : ℕ) : Type 0 where
  pub from : k ≤ r
  pub below : r < k + count
  pub passes : test r ≡ true
  pub earlier : (j : ℕ) → k ≤ j → j < r → test j ≡ false

abbrev pub NonePasses : (ℕ → Bool) → ℕ → ℕ → Type 0
NonePasses test k count = (j : ℕ) → k ≤ j → j < k + count → test j ≡ false

-- two numbers are one, or the first is below the second
at_or_after : (k j : ℕ) → k ≤ j → (k ≡ j) ⊎ (suc k ≤ j)
at_or_after zero zero h = inl refl
at_or_after zero (suc j) h = inr (omega arith)
at_or_after (suc k) zero h = absurd (omega arith)
at_or_after (suc k) (suc j) h = elim (at_or_after k j (omega arith)) [ inl e ↦ inl (ap suc e) | inr l ↦ inr (omega arith) ]

-- what fails at k and from suc k on, fails from k on
from_here : (test : ℕ → Bool) (k bound : ℕ) → test k ≡ false → ((j : ℕ) → suc k ≤ j → j < bound → test j ≡ false) → (j : ℕ) → k ≤ j → j < bound → test j ≡ false
from_here test k bound here later j from below =
    elim (at_or_after k j from) [ inl e ↦ ap test (sym e) ∙ here | inr after ↦ later j after below ]

unfoldable pub Finds : (ℕ → Bool) → ℕ → ℕ → Option ℕ → Type 0
Finds test k count found = MatchOption found (NonePasses test k count) (λ r. IsFirst test k count r)

-- if k fails, the search from k on finds what the search from suc k on finds
later_found : (test : ℕ → Bool) (k count : ℕ) (found : Option ℕ) → test k ≡ false → Finds test (suc k) count found → Finds test k (suc count) found
unfolding Finds
later_found test k count None here none = λ j from below. from_here test k (suc k + count) here none j from (omega arith)
later_found test k count (Some r) here is = record {
  from = omega (arith, is.from);
  below = omega (arith, is.below);
  passes = is.passes;
  earlier = from_here test k r here is.earlier;
}

-- the search from k on, by the result of the test at k
here_found : (test : ℕ → Bool) (k count : ℕ) (b : Bool) → test k ≡ b → Finds test (suc k) count (first_from test (suc k) count)
    → Finds test k (suc count) (if b then Some k else first_from test (suc k) count)
unfolding Finds
here_found test k count true here rest = record { from = omega arith; below = omega arith; passes = here; earlier = λ j from below. absurd (omega arith) }
here_found test k count false here rest = later_found test k count (first_from test (suc k) count) here rest

pub first_from-finds : (test : ℕ → Bool) (k count : ℕ) → Finds test k count (first_from test k count)
unfolding Finds
first_from-finds test k zero = λ j from below. absurd (omega arith)
first_from-finds test k (suc count) = here_found test k count (test k) refl (first_from-finds test (suc k) count)

-- the law of `first_below`
plain : (test : ℕ → Bool) (count : ℕ) (found : Option ℕ) → Finds test 0 count found → IsFirstBelow test count found
unfolding Finds
plain test count None none = λ j below. none j (omega arith) (omega arith)
plain test count (Some r) is = (omega (arith, is.below), is.passes, λ j below. is.earlier j (omega arith) below)

pub first_below-law : (test : ℕ → Bool) (count : ℕ) → IsFirstBelow test count (first_below test count)
unfolding first_below
first_below-law test count = plain test count (first_from test 0 count) (first_from-finds test 0 count)

-- the law of the channel test: the first number that passes, as the channel at that position of
-- the order
pub in_turn-law : (test : ℕ → Bool) (turn : ℕ → ℕ) (found : Option ℕ) → IsFirstBelow test 10 found
    → MatchOption (option_map turn found) ((j : ℕ) → j < 10 → test j ≡ false)
    (λ channel. (k : ℕ) × (k < 10) × (channel ≡ turn k) × (test k ≡ true) × ((j : ℕ) → j < k → test j ≡ false))
in_turn-law test turn None none = none
in_turn-law test turn (Some k) is = (k, is.0, refl, is.1, is.2)

-- the search finds a number that passes if none before it does
pub first_below-found : (test : ℕ → Bool) (count k : ℕ) → k < count → test k ≡ true → ((j : ℕ) → j < k → test j ≡ false) → first_below test count ≡ Some k
first_below-found test count k below passes earlier = one_first (first_below test count) (first_below-law test count) where
  one_first : (found : Option ℕ) → IsFirstBelow test count found → found ≡ Some k
  one_first None none = absurd (true≢false (sym passes ∙ none k below))
  one_first (Some r) is = elim (cases_lt r k) [
    | inl before ↦ absurd (true≢false (sym is.1 ∙ earlier r before))
    | inr from ↦ elim (at_or_after k r from) [ inl same ↦ ap Some (sym same) | inr after ↦ absurd (true≢false (sym passes ∙ is.2 k after)) ]
  ]

-- and nothing if none passes
pub first_below-none : (test : ℕ → Bool) (count : ℕ) → ((j : ℕ) → j < count → test j ≡ false) → first_below test count ≡ None
first_below-none test count none = no_first (first_below test count) (first_below-law test count) where
  no_first : (found : Option ℕ) → IsFirstBelow test count found → found ≡ None
  no_first None is = refl
  no_first (Some r) is = absurd (true≢false (sym is.1 ∙ none r is.0))

module _ (test : ℕ → Bool) (count k : ℕ) where
  after : ℕ → Bool
  after j = test (k + 1 + j)

  answer : Option ℕ → ℕ
  answer found = unwrap_or (option_map (λ j. k + 1 + j) found) k

  -- the first number after k that passes is the next
  pub next_below-found : (next : ℕ) → k + 1 ≤ next → next < count → test next ≡ true → ((j : ℕ) → k + 1 + j < next → test (k + 1 + j) ≡ false)
      → next_below test count k ≡ next
  unfolding after answer
  next_below-found next from below passes earlier =
      let step = next - (k + 1) in
      let here : k + 1 + (next - (k + 1)) ≡ next = omega arith in
      let found = first_below-found after (count - (k + 1)) step (omega arith) (ap test here ∙ passes) (λ j before. earlier j (omega arith)) in
      ap answer found ∙ here

  -- if none after k passes, the next is k itself
  pub next_below-none : ((j : ℕ) → k + 1 + j < count → test (k + 1 + j) ≡ false) → next_below test count k ≡ k
  unfolding after answer
  next_below-none none = ap answer (first_below-none after (count - (k + 1)) (λ j before. none j (omega arith)))

  -- the law of `next_below`
  pub next_below-law : IsNextBelow test count k (next_below test count k)
  unfolding after answer
  next_below-law = of (first_below after (count - (k + 1))) (first_below-law after (count - (k + 1))) where
    of : (found : Option ℕ) → IsFirstBelow after (count - (k + 1)) found → IsNextBelow test count k (answer found)
    of None none = inl (refl, λ j past below. let at : k + 1 + (j - (k + 1)) ≡ j = omega arith in ap test (sym at) ∙ none (j - (k + 1)) (omega arith))
    of (Some first) is = inr (
      omega arith,
      omega (arith, is.0),
      is.1,
      λ j past before. let at : k + 1 + (j - (k + 1)) ≡ j = omega arith in ap test (sym at) ∙ is.2 (j - (k + 1)) (omega arith),
    )
