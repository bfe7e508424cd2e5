use Rattle.std.specs.Prelude.{◌≡◌, ◌⊎◌, ℕ, zero, suc, ◌+◌, ◌-◌, ◌<◌, Bool, true, false, Option, Some, None, MatchOption, option_map, unwrap_or, if◌then◌else◌}

-- the first number that passes the test, if any, of the `count` numbers k, k + 1, ..
abbrev pub first_from : (ℕ → Bool) → ℕ → ℕ → Option ℕ
first_from test k zero = None
first_from test k (suc count) = if test k then Some k else first_from test (suc k) count

-- the first number below `count` that passes the test, if any
unfoldable pub first_below : (ℕ → Bool) → ℕ → Option ℕ
first_below test count = first_from test 0 count

-- `found` is the first number below `count` that passes the test, or None if none passes
abbrev pub IsFirstBelow : (ℕ → Bool) → ℕ → Option ℕ → Type 0
IsFirstBelow test count found =
    MatchOption found ((j : ℕ) → j < count → test j ≡ false)
    (λ first. (first < count) × (test first ≡ true) × ((j : ℕ) → j < first → test j ≡ false))

-- `next` is the first number after k and below `count` that passes the test, or k if none does
abbrev pub IsNextBelow : (ℕ → Bool) → ℕ → ℕ → ℕ → Type 0
IsNextBelow test count k next =
    ((next ≡ k) × ((j : ℕ) → k < j → j < count → test j ≡ false))
    ⊎ ((k < next) × (next < count) × (test next ≡ true)
    × ((j : ℕ) → k < j → j < next → test j ≡ false))

-- the first number after k and below `count` that passes the test, or k if none does
abbrev pub next_below : (ℕ → Bool) → ℕ → ℕ → ℕ
next_below test count k =
    unwrap_or
    (option_map (λ j. k + 1 + j) (first_below (λ j. test (k + 1 + j)) (count - (k + 1)))) k
