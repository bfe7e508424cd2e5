use Rattle.std.proofs.Common.{◌≡◌, ℕ, zero, suc, ◌+◌, ◌*◌, ◌/◌, ◌%◌, ◌^◌, ◌<◌, ◌≤◌, List, [], ◌∷◌, ◌++◌, length, take, get_or, refl, sym, ◌∙◌, ap, arith}
use Rattle.std.proofs.Common.{add-one, lit≤, ◌&&◌, true, IsTrue, pow-suc}
use Rattle.std.{specs.Char.is_ascii_digit, proofs.{lemmas.List.{take_more, Folds.list_all_more}, Math.Nat.{div-div-eq-div-mul, pow-le-pow_right}}}
use Rattle.xbar_equip.specs.Digits.{digit, digits, are_digits}

-- one more digit at the end shifts the others up by a place
pub shifted_place : (k n d : ℕ) → d < 10 → (10 * n + d) / 10 ^ suc k ≡ n / 10 ^ k
shifted_place k n d h =
    let split : 10 ^ suc k ≡ 10 * 10 ^ k = omega (arith, pow-suc 10 k) in
    let front : (10 * n + d) / 10 ≡ n = omega arith in
    ap (λ p. (10 * n + d) / p) split ∙ sym (div-div-eq-div-mul (10 * n + d) 10 (10 ^ k)) ∙ ap (λ m. m / 10 ^ k) front

-- the digits of 10 * n + d are those of n, and then d
pub digits-snoc : (k n d : ℕ) → d < 10 → digits (suc k) (10 * n + d) ≡ digits k n ++ digit d ∷ []
digits-snoc zero n d h = let e : (10 * n + d) / 1 % 10 ≡ d = omega arith in ap (λ x. digit x ∷ []) e
digits-snoc (suc k) n d h =
    ap (λ x. digit (x % 10) ∷ digits (suc k) (10 * n + d)) (shifted_place k n d h)
    ∙ ap (λ rest. digit (n / 10 ^ k % 10) ∷ rest) (digits-snoc k n d h)

-- k digits are k bytes
pub length-digits : (k n : ℕ) → length (digits k n) ≡ k
length-digits zero n = refl
length-digits (suc k) n = ap suc (length-digits k n)

-- the number of k + 1 digits
pub next_below : (k n d : ℕ) → n < 10 ^ k → d < 10 → 10 * n + d < 10 ^ (k + 1)
next_below k n d below digit_below = rw add-one (omega (arith, pow-suc 10 k))

-- up to nine digits fit 32 bits
pub nine_digits_fit : (k n : ℕ) → n < 10 ^ k → k ≤ 9 → n < 10 ^ 9
nine_digits_fit k n below few = omega (arith, pow-le-pow_right {n = 10} (lit≤ tt) few)

-- one more digit: the loop's step
pub written_more : (text : List ℕ) (k n d : ℕ) → k < length text → d < 10 → take k text ≡ digits k n → get_or text k 0 ≡ digit d
    → take (k + 1) text ≡ digits (k + 1) (10 * n + d)
written_more text k n d within below before here =
    take_more text k 0 within ∙ ap (λ front. front ++ get_or text k 0 ∷ []) before ∙ ap (λ x. digits k n ++ x ∷ []) here
    ∙ rw add-one (sym (digits-snoc k n d below))

-- one more byte: whether all so far are digits
pub tested_more : (text : List ℕ) (k : ℕ) → k < length text → are_digits (take k text) ≡ true → IsTrue (is_ascii_digit (get_or text k 0))
    → are_digits (take (k + 1) text) ≡ true
tested_more text k within before here = list_all_more is_ascii_digit text k 0 within ∙ ap (λ b. b && is_ascii_digit (get_or text k 0)) before ∙ here
