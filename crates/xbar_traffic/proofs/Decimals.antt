use Rattle.std.proofs.Common.{◌≡◌, ◌<◌, ◌≤◌, ◌^◌, ℕ, List, Option, Some, None, length, get_or, zero, suc, sym, ap, ◌∙◌, arith, decimal, IfSome}
use Rattle.std.{specs.Str.Parse.{AllDigits, digits_value}, proofs.lemmas.Str.Parse.{IsNumeralModel, numerals_by_value, tells_digits}}
use Rattle.std.proofs.lemmas.Fmt.{decimal_digit, decimal_nonempty, digits_decimal, digits_value-decimal, first_decimal, decimal-digits_value}
use Rattle.xbar_traffic.specs.Number.{BeginsPlainly}

own : IsNumeralModel (AllDigits 10) (digits_value 10)
own = numerals_by_value (AllDigits 10) tells_digits

no_zero : (n : ℕ) → n < 2 ^ 64 → get_or (decimal n) 0 0 ≡ 48 → length (decimal n) ≡ 1
no_zero zero h e = ap length (decimal_digit 0 (omega arith))
no_zero (suc n) h e = absurd (let more = first_decimal (suc n) (omega arith) h in omega arith)

-- a number's text isn't empty, and begins with no zero unless that is all
pub decimal_begins_plainly : (n : ℕ) → n < 2 ^ 64 → BeginsPlainly (decimal n)
decimal_begins_plainly n h = (decimal_nonempty n h, no_zero n h)

-- it is digits
pub decimal_is_digits : (n : ℕ) → n < 2 ^ 64 → AllDigits 10 (decimal n)
decimal_is_digits n h = digits_decimal own n h

-- whose value is the number
pub decimal_has_value : (n : ℕ) → n < 2 ^ 64 → digits_value 10 (decimal n) ≡ n
decimal_has_value n h = digits_value-decimal own n h

-- and digits that begin so are the text of their value
pub number_of_value : (text : List ℕ) (limit : ℕ) (r : Option ℕ) → BeginsPlainly text → limit < 2 ^ 64
    → IfSome r (λ n. (n ≤ limit) × AllDigits 10 text × (n ≡ digits_value 10 text)) → IfSome r (λ n. (n ≤ limit) × (text ≡ decimal n))
number_of_value text limit (Some n) plain small h =
    (h.0, sym (ap decimal h.2 ∙ decimal-digits_value own text h.1 plain.0 plain.1 (omega (arith, h.0, h.2))))
number_of_value text limit None plain small h = tt
