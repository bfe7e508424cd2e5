use Rattle.std.specs.Prelude.{◌≡◌, ℕ, ◌+◌, ◌-◌, ◌^◌, ◌<◌, ◌≤◌, ◌⊎◌, min, Option, IfSome}

-- a count raised by one; it stays at its maximum, 2^64 - 1
abbrev pub one_more : ℕ → ℕ
one_more count = min (count + 1) (2 ^ 64 - 1)

-- a failure was counted: the count rose, or it was at its maximum before
abbrev pub HasFailed : ℕ → ℕ → Type 0
HasFailed before now = (before < now) ⊎ (before ≡ 2 ^ 64 - 1)

-- no read is left: the count of reads rose by 2^20 or more, or is at its maximum now
abbrev pub AreUsedUp : ℕ → ℕ → Type 0
AreUsedUp before now = (before + 2 ^ 20 ≤ now) ⊎ (now ≡ 2 ^ 64 - 1)

-- the same for two counts, if both are known
abbrev pub ReadsUsedUp : Option ℕ → Option ℕ → Type 0
ReadsUsedUp before now = IfSome before (λ old. IfSome now (λ new. AreUsedUp old new))
