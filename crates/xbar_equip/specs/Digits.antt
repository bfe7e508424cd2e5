use Rattle.std.specs.Prelude.{ℕ, zero, suc, ◌+◌, ◌/◌, ◌%◌, ◌^◌, Bool, List, [], ◌∷◌}
use Rattle.std.specs.List.{list_all}
use Rattle.std.specs.Char.{is_ascii_digit}

-- the ASCII byte of a decimal digit
abbrev pub digit : ℕ → ℕ
digit n = 48 + n

-- the last k decimal digits of n, the highest first
abbrev pub digits : ℕ → ℕ → List ℕ
digits zero n = []
digits (suc k) n = digit (n / 10 ^ k % 10) ∷ digits k n

-- whether each byte is an ASCII digit
abbrev pub are_digits : List ℕ → Bool
are_digits text = list_all is_ascii_digit text
