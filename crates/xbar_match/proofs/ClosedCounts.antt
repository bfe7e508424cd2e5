use Rattle.std.proofs.Common.{◌≡◌, ◌≢◌, ℕ, zero, suc, ◌+◌, ◌<◌, ◌==◌, if◌then◌else◌, inl, inr, refl, sym, ◌∙◌, ap, ap₂, arith, add-one, eq-eqb, ne_eqb}
use Rattle.{std.proofs.lemmas.Bool.cases_eq, xbar_match.specs.Counts.sum_below}

-- a sum over no numbers, and with one number more
pub sum_below-zero : (f : ℕ → ℕ) → sum_below f 0 ≡ 0
unfolding sum_below
sum_below-zero f = refl

pub sum_below-more : (f : ℕ → ℕ) (n : ℕ) → sum_below f (n + 1) ≡ sum_below f n + f n
unfolding sum_below
sum_below-more f n = rw add-one refl

sum_below-suc : (f : ℕ → ℕ) (n : ℕ) → sum_below f (suc n) ≡ sum_below f n + f n
unfolding sum_below
sum_below-suc f n = refl

-- a field counts if it is not 0
pub counts-closed : (held : ℕ) → (held ≡ 0 → ⊥) → ◌≡◌ {A = ℕ} (if held == 0 then 0 else 1) 1
counts-closed held is_closed = rw (ne_eqb held 0 is_closed) refl

pub counts-open : (held : ℕ) → held ≡ 0 → ◌≡◌ {A = ℕ} (if held == 0 then 0 else 1) 0
counts-open held is_open = rw (eq-eqb held 0 is_open) refl

-- sums of equal terms are equal
pub sum_below-same : (f g : ℕ → ℕ) (count : ℕ) → ((j : ℕ) → j < count → f j ≡ g j) → sum_below f count ≡ sum_below g count
sum_below-same f g zero agree = sum_below-zero f ∙ sym (sum_below-zero g)
sum_below-same f g (suc n) agree =
    sum_below-suc f n ∙ ap₂ (λ a b. a + b) (sum_below-same f g n (λ j below. agree j (omega arith))) (agree n (omega arith)) ∙ sym (sum_below-suc g n)

-- a sum of zeros is 0
pub sum_below-none : (f : ℕ → ℕ) (count : ℕ) → ((j : ℕ) → j < count → f j ≡ 0) → sum_below f count ≡ 0
sum_below-none f zero none = sum_below-zero f
sum_below-none f (suc n) none =
    let rest = sum_below-none f n (λ j below. none j (omega arith)) in
    let last = none n (omega arith) in
    sum_below-suc f n ∙ omega (arith, rest, last)

-- if the terms differ only at one number, the sums differ by as much
pub sum_below-change : (f g : ℕ → ℕ) (k more count : ℕ) → k < count → f k ≡ g k + more → ((j : ℕ) → j < count → j ≢ k → f j ≡ g j)
    → sum_below f count ≡ sum_below g count + more
sum_below-change f g k more zero within here agree = absurd (omega arith)
sum_below-change f g k more (suc n) within here agree = elim (cases_eq k n) [
  | inl last ↦
      let rest = sum_below-same f g n (λ j below. agree j (omega arith) (λ e. omega arith)) in
      let at_last : f n ≡ g n + more = ap f (sym last) ∙ here ∙ ap (λ i. g i + more) last in
      sum_below-suc f n ∙ omega (arith, rest, at_last, sum_below-suc g n)
  | inr earlier ↦
      let rest = sum_below-change f g k more n (omega arith) here (λ j below. agree j (omega arith)) in
      let last = agree n (omega arith) (λ e. earlier (sym e)) in
      sum_below-suc f n ∙ omega (arith, rest, last, sum_below-suc g n)
]
