use Rattle.std.specs.Prelude.{◌≡◌, ℕ, List, sum_by}

-- two lists have the same items, each the same number of times: they weigh the same, whatever
-- weights the items are given
abbrev pub SameItems : {X : Type 0} → List X → List X → Type 0
SameItems {X} xs ys = (weight : X → ℕ) → sum_by weight xs ≡ sum_by weight ys
