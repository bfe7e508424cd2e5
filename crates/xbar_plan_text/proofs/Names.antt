use Rattle.std.proofs.Common.{◌≡◌, ℕ, zero, suc, ◌<◌, true, List, [], ◌∷◌, length, inl, inr, arith, nat_le, IsAscii, leb-true}
use Rattle.{std.specs.{List.list_all, Char.{is_ascii_digit, is_ascii_uppercase}}, xbar_equip.proofs.Logic.{both, either}}
use Rattle.xbar_plan.specs.Lawful.{is_between, is_name, is_name_character}

-- a letter or a digit is below 128, and is not a space
below : (c : ℕ) → is_name_character c ≡ true → c < 128
below c e = elim (either (is_ascii_uppercase c) (is_ascii_digit c) e) [
  | inl letter ↦ omega (arith, leb-true c 90 (both (nat_le 65 c) (nat_le c 90) letter).1)
  | inr digit ↦ omega (arith, leb-true c 57 (both (nat_le 48 c) (nat_le c 57) digit).1)
]

ascii : (text : List ℕ) → list_all is_name_character text ≡ true → IsAscii text
ascii [] e i = omega arith
ascii (c ∷ text) e zero = below c (both (is_name_character c) (list_all is_name_character text) e).0
ascii (c ∷ text) e (suc i) = ascii text (both (is_name_character c) (list_all is_name_character text) e).1 i

pub name-ascii : (text : List ℕ) → is_name text ≡ true → IsAscii text
name-ascii text e = ascii text (both (is_between 1 8 (length text)) (list_all is_name_character text) e).1
