use Rattle.std.specs.Prelude.{ℕ, ◌<◌, ◌^◌, List}
use Rattle.xbar_equip.specs.Digits.{digits}

-- a directory number has four digits
abbrev pub IsDirNo : ℕ → Type 0
IsDirNo number = number < 10 ^ 4

-- the four digits, with leading zeros
abbrev pub dir_no_text : ℕ → List ℕ
dir_no_text number = digits 4 number
