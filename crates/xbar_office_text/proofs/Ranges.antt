-- Lists of numbers from 0 on, one number longer.
use Rattle.std.proofs.Common.{◌≡◌, ℕ, zero, suc, ◌+◌, List, [], ◌∷◌, ◌++◌, arith, ap, ◌∙◌, append-nil, flat_map}
use Rattle.std.{specs.List.range_with_len, proofs.lemmas.List.Concat.flat_map-append}

range_longer : (n a : ℕ) → range_with_len a (suc n) ≡ range_with_len a n ++ (a + n) ∷ []
range_longer zero a = let e : a ≡ a + 0 = omega arith in ap (λ x. x ∷ []) e
range_longer (suc n) a =
    let e : a + 1 + n ≡ a + suc n = omega arith in
    ap (λ l. a ∷ l) (range_longer n (a + 1) ∙ ap (λ x. range_with_len (a + 1) n ++ x ∷ []) e)

pub flat_map_range_more : {A : Type 0} (f : ℕ → List A) (n : ℕ) → flat_map f (range_with_len 0 (n + 1)) ≡ flat_map f (range_with_len 0 n) ++ f n
flat_map_range_more f n =
    let one_more : n + 1 ≡ suc n = omega arith in
    let last : 0 + n ≡ n = omega arith in
    let longer : range_with_len 0 (n + 1) ≡ range_with_len 0 n ++ n ∷ [] =
    ap (range_with_len 0) one_more ∙ range_longer n 0 ∙ ap (λ x. range_with_len 0 n ++ x ∷ []) last in
    ap (flat_map f) longer ∙ flat_map-append f (range_with_len 0 n) (n ∷ []) ∙ ap (λ t. flat_map f (range_with_len 0 n) ++ t) (append-nil (f n))
