use Rattle.std.specs.Prelude.{ℕ, Bool, false, List, slice_index_or}

-- whether an earlier row has a number, by a list with the answer for each number
abbrev pub contains : List Bool → ℕ → Bool
contains seen number = slice_index_or seen number false
