use Rattle.std.proofs.Common.{◌≡◌, ◌≢◌, ◌/◌, ◌%◌, ◌*◌, ◌^◌, ◌++◌, ℕ, zero, suc, List, [], ◌∷◌, length, take, drop, true, false, refl, sym, ap, ◌∙◌, arith, lit≤}
use Rattle.std.proofs.Common.{◌==◌ as eqb, Err, codes, pow-suc}
use Rattle.std.{specs.Cmp.Lexicographic.pointwise, proofs.Math.{Arith.mod-mul, Nat.pow-le-pow_right, Seq.{drop-append_seam, take-append_seam}}}
use Rattle.xbar_equip.specs.{Dialled.{IsDialled, dialled_text}, Digits.{digit, digits}, Len.{IsLine, Line, line_text}}
use Rattle.xbar_office.specs.{Legal.IsJob, declared.job.Job.{Job, TheVariants.{Dial, Complete, Release}}}
use Rattle.xbar_traffic.specs.{Job.{IsJobReadAs, job_fields}, declared.fault.RowFault.TheVariants.Malformed}

-- lists that are one begin with one item
pub first_same : {A : Type 0} (x y : A) (xs ys : List A) → x ∷ xs ≡ y ∷ ys → x ≡ y
first_same x y xs ys e = cc

-- and end with one list
pub rest_same : {A : Type 0} (x y : A) (xs ys : List A) → x ∷ xs ≡ y ∷ ys → xs ≡ ys
rest_same x y xs ys e = cc

digit_same : (m n : ℕ) → digit m ≡ digit n → m ≡ n
digit_same m n e = omega arith

-- a line's text is no other's
pub line_text_injective : (a b : Line) → line_text a ≡ line_text b → a ≡ b
line_text_injective a b e =
    let frame = digit_same a.frame b.frame (first_same _ _ _ _ e) in
    let e1 = rest_same _ _ _ _ e in
    let switch = digit_same a.switch b.switch (first_same _ _ _ _ e1) in
    let e2 = rest_same _ _ _ _ e1 in
    let group = digit_same (a.x / 5) (b.x / 5) (first_same _ _ _ _ e2) in
    let file = digit_same (a.x % 5) (b.x % 5) (first_same _ _ _ _ (rest_same _ _ _ _ e2)) in
    let x : a.x ≡ b.x = omega arith in
    λ i. record { frame = frame i; switch = switch i; x = x i }

-- numbers with the same last digits
digits_same : (k m n : ℕ) → digits k m ≡ digits k n → m % 10 ^ k ≡ n % 10 ^ k
digits_same zero m n e = omega arith
digits_same (suc k) m n e =
    let high = digit_same (m / 10 ^ k % 10) (n / 10 ^ k % 10) (first_same _ _ _ _ e) in
    let low = digits_same k m n (rest_same _ _ _ _ e) in
    let split : 10 ^ suc k ≡ 10 * 10 ^ k = omega (arith, pow-suc 10 k) in
    let positive = pow-le-pow_right {n = 10} (lit≤ tt) {i = 0} {j = k} (omega arith) in
    let of_m = mod-mul m {m = 10} {c = 10 ^ k} (omega arith) positive in
    let of_n = mod-mul n {m = 10} {c = 10 ^ k} (omega arith) positive in
    cc

-- what is dialled has no other's text
pub dialled_text_injective : (m n : ℕ) → IsDialled m → IsDialled n → dialled_text m ≡ dialled_text n → m ≡ n
dialled_text_injective m n h h2 e = let same = digits_same 7 m n e in omega (arith, same, h, h2)

-- a job's fields are no other's
pub job_fields_injective : (a b : Job) → IsJob a → IsJob b → job_fields a ≡ job_fields b → a ≡ b
job_fields_injective (Dial a) (Dial b) h h2 e = ap Dial (line_text_injective a b (first_same _ _ _ _ (rest_same _ _ _ _ e)))
job_fields_injective (Complete a m) (Complete b n) h h2 e =
    let args = first_same _ _ _ _ (rest_same _ _ _ _ e) in
    let line = line_text_injective a b (ap (take 4) args) in
    let dialled = dialled_text_injective m n h.1 h2.1 (ap (drop 5) args) in
    cc
job_fields_injective (Release a) (Release b) h h2 e = ap Release (line_text_injective a b (first_same _ _ _ _ (rest_same _ _ _ _ e)))
job_fields_injective (Dial a) (Complete b n) h h2 e = absurd (let letter : 68 ≡ 67 = first_same _ _ _ _ (first_same _ _ _ _ e) in omega arith)
job_fields_injective (Dial a) (Release b) h h2 e = absurd (let letter : 68 ≡ 82 = first_same _ _ _ _ (first_same _ _ _ _ e) in omega arith)
job_fields_injective (Complete a m) (Dial b) h h2 e = absurd (let letter : 67 ≡ 68 = first_same _ _ _ _ (first_same _ _ _ _ e) in omega arith)
job_fields_injective (Complete a m) (Release b) h h2 e = absurd (let letter : 67 ≡ 82 = first_same _ _ _ _ (first_same _ _ _ _ e) in omega arith)
job_fields_injective (Release a) (Dial b) h h2 e = absurd (let letter : 82 ≡ 68 = first_same _ _ _ _ (first_same _ _ _ _ e) in omega arith)
job_fields_injective (Release a) (Complete b n) h h2 e = absurd (let letter : 82 ≡ 67 = first_same _ _ _ _ (first_same _ _ _ _ e) in omega arith)

only_complete : (args : List ℕ) → ((line : Line) (dialled : ℕ) → IsLine line → args ≢ line_text line ++ (codes " " ++ dialled_text dialled))
    → (job : Job) → IsJob job → codes "C" ∷ args ∷ [] ≢ job_fields job
only_complete args none (Dial line) h e = absurd (let letter : 67 ≡ 68 = first_same _ _ _ _ (first_same _ _ _ _ e) in omega arith)
only_complete args none (Complete line dialled) h e = none line dialled h.0 (first_same _ _ _ _ (rest_same _ _ _ _ e))
only_complete args none (Release line) h e = absurd (let letter : 67 ≡ 82 = first_same _ _ _ _ (first_same _ _ _ _ e) in omega arith)

-- a text without a space after four bytes is no completing job's
pub no_space : (args : List ℕ) → ((line rest : List ℕ) → length line ≡ 4 → args ≢ line ++ (codes " " ++ rest))
    → IsJobReadAs (codes "C") args (Err Malformed)
no_space args none = (only_complete args (λ line dialled h e. none (line_text line) (dialled_text dialled) refl e), refl)

front_same : (xs ys us vs : List ℕ) → length xs ≡ length ys → xs ++ us ≡ ys ++ vs → xs ≡ ys
front_same xs ys us vs same e =
    sym (take-append_seam xs us) ∙ ap (take (length xs)) e ∙ ap (λ (n : ℕ). take n (ys ++ vs)) same ∙ take-append_seam ys vs

-- nor is a text with no line's text before that space
pub no_line : (args front rest : List ℕ) → length front ≡ 4 → args ≡ front ++ (codes " " ++ rest)
    → ((line : Line) → IsLine line → front ≢ line_text line) → IsJobReadAs (codes "C") args (Err Malformed)
no_line args front rest four split none =
    (only_complete args (λ line dialled h e. none line h (front_same front (line_text line) _ _ four (sym split ∙ e))), refl)

-- if no space follows the first four bytes, the text has none there
pub no_space_follows : (text back : List ℕ) → back ≡ drop 4 text → pointwise eqb (take 1 back) (codes " ") ≡ false
    → (line rest : List ℕ) → length line ≡ 4 → text ≢ line ++ (codes " " ++ rest)
no_space_follows text back after none line rest four e =
    let follows : back ≡ codes " " ++ rest =
    after ∙ ap (drop 4) e ∙ ap (λ (n : ℕ). drop n (line ++ (codes " " ++ rest))) (sym four) ∙ drop-append_seam line (codes " " ++ rest) in
    let some : pointwise eqb (take 1 back) (codes " ") ≡ true = ap (λ (xs : List ℕ). pointwise eqb (take 1 xs) (codes " ")) follows in
    absurd (cc)
