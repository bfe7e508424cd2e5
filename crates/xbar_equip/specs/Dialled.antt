use Rattle.std.specs.Prelude.{ℕ, ◌<◌, ◌/◌, ◌%◌, ◌^◌, List}
use Rattle.xbar_equip.specs.Digits.{digits}

-- a dialled number has seven digits
abbrev pub IsDialled : ℕ → Type 0
IsDialled dialled = dialled < 10 ^ 7

-- the seven digits, with leading zeros
abbrev pub dialled_text : ℕ → List ℕ
dialled_text dialled = digits 7 dialled

-- the office code: the first three digits
abbrev pub code_of : ℕ → ℕ
code_of dialled = dialled / 10 ^ 4

-- the directory number: the last four digits
abbrev pub number_of : ℕ → ℕ
number_of dialled = dialled % 10 ^ 4
