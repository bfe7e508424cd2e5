use Rattle.std.specs.Prelude.{ℕ, ◌+◌, ◌==◌, ◌||◌, not, Bool, if◌then◌else◌, Option, Some, None, List, length, position}
use Rattle.xbar_plan.specs.Lawful.{is_between}
use Rattle.xbar_diagnostics.specs.declared.kinds.KindsWrong.{KindsWrong}
use Rattle.xbar_diagnostics.specs.declared.kinds.KindsWrong.TheVariants.{Letter, Count}

-- whether a letter names a kind: D, C or X
abbrev pub is_kind_letter : ℕ → Bool
is_kind_letter letter = letter == 68 || letter == 67 || letter == 88

-- what is wrong, by the index of the first letter that names no kind: that letter; if there is
-- none, the number of letters, if it isn't 1 to 48
abbrev pub wrong_of : Option ℕ → ℕ → Option KindsWrong
wrong_of (Some place) count = Some (Letter (place + 1))
wrong_of None count = if is_between 1 48 count then None else Some (Count count)

-- what is wrong with a text of markers' kinds, if anything is
abbrev pub wrong_in : List ℕ → Option KindsWrong
wrong_in kinds = wrong_of (position (λ letter. not (is_kind_letter letter)) kinds) (length kinds)
