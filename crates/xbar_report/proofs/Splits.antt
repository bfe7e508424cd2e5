use Rattle.std.proofs.Common.{◌≡◌, ◌<◌, ◌+◌, ℕ, suc, Bool, true, false, List, [], ◌∷◌, ◌++◌, length, take, drop, cond, refl, ap, subst, arith, ◌==◌, not}
use Rattle.std.proofs.Common.{nat_lt, Some, None, position, eqb-true, eq-eqb, ltb-true, ltb-false, take_all}
use Rattle.{std.specs.List.{list_all, position_or_len}, xbar_equip.{proofs.Logic.{both, both_hold, not_both}, specs.TextLines.Lacks}}

-- a text is cut at the first byte of a kind: the text before it, and the text from it on
record IsCutAt (byte : ℕ) (text : List ℕ) (n : ℕ) : Type 0 where
  before : Lacks byte (take n text)
  here : n < length text → drop n text ≡ byte ∷ drop (suc n) text

-- a text that lacks a byte begins with another
starts_otherwise : (byte x : ℕ) (rest : List ℕ) → Lacks byte (x ∷ rest) → x ≡ byte → ⊥
starts_otherwise byte x rest h e = not_both (x == byte) (both (not (x == byte)) _ h).0 (eq-eqb x byte e)

cut_by : (byte x : ℕ) (rest : List ℕ) (b : Bool) → (x == byte) ≡ b → IsCutAt byte rest (position_or_len (λ c. c == byte) rest)
    → IsCutAt byte (x ∷ rest) (cond (not b) (1 + position_or_len (λ c. c == byte) rest) 0)
cut_by byte x rest true e later = record { before = refl; here = λ within. ap (λ (c : ℕ). c ∷ rest) (eqb-true x byte e) }
cut_by byte x rest false e later =
    let n = position_or_len (λ c. c == byte) rest in
    let one : 1 + n ≡ suc n = omega arith in
    let unlike : not (x == byte) ≡ true = ap not e in
    rw one (record {
      before = both_hold (not (x == byte)) (list_all (λ c. not (c == byte)) (take n rest)) unlike later.before;
      here = λ within. later.here (omega arith);
    })

cut : (byte : ℕ) (text : List ℕ) → IsCutAt byte text (position_or_len (λ c. c == byte) text)
cut byte [] = record { before = refl; here = λ within. absurd (omega arith) }
cut byte (x ∷ rest) = cut_by byte x rest (x == byte) refl (cut byte rest)

yes : (b : Bool) (n i : ℕ) → cond b (Some n) None ≡ Some i → (b ≡ true) × (n ≡ i)
yes true n i e = (refl, cc)
yes false n i e = cc

no : (b : Bool) (n : ℕ) → cond b (Some n) None ≡ None → b ≡ false
no true n e = cc
no false n e = refl

-- a text in which the byte isn't found lacks it
pub lacks_none : (byte : ℕ) (text : List ℕ) → position (λ c. c == byte) text ≡ None → Lacks byte text
lacks_none byte text e =
    let n = position_or_len (λ c. c == byte) text in
    let all = ltb-false n (length text) (no (nat_lt n (length text)) n e) in
    subst (λ (xs : List ℕ). Lacks byte xs) (take_all n text all) (cut byte text).before

-- if the byte is found, the text is cut at it
pub cut_at_place : (byte : ℕ) (text : List ℕ) (i : ℕ) → position (λ c. c == byte) text ≡ Some i
    → (i < length text) × Lacks byte (take i text) × (drop i text ≡ byte ∷ drop (suc i) text)
cut_at_place byte text i e =
    let n = position_or_len (λ c. c == byte) text in
    let found = yes (nat_lt n (length text)) n i e in
    let within = ltb-true n (length text) found.0 in
    let c = cut byte text in
    subst (λ (k : ℕ). (k < length text) × Lacks byte (take k text) × (drop k text ≡ byte ∷ drop (suc k) text)) found.1 (within, c.before, c.here within)

-- a text is cut at the first byte of a kind in one way
pub cut_once : (byte : ℕ) (front rest front' rest' : List ℕ) → Lacks byte front → Lacks byte front' → front ++ byte ∷ rest ≡ front' ++ byte ∷ rest'
    → (front ≡ front') × (rest ≡ rest')
cut_once byte [] rest [] rest' h h' e = (refl, cc)
cut_once byte [] rest (x ∷ front') rest' h h' e = absurd (starts_otherwise byte x front' h' cc)
cut_once byte (x ∷ front) rest [] rest' h h' e = absurd (starts_otherwise byte x front h cc)
cut_once byte (x ∷ front) rest (y ∷ front') rest' h h' e =
    let later = cut_once byte front rest front' rest' (both (not (x == byte)) _ h).1 (both (not (y == byte)) _ h').1 cc in
    let first : x ≡ y = cc in
    (cc, later.1)

-- and it doesn't lack that byte
pub has_byte : (byte : ℕ) (front rest : List ℕ) → Lacks byte (front ++ byte ∷ rest) → ⊥
has_byte byte [] rest h = starts_otherwise byte byte rest h refl
has_byte byte (x ∷ front) rest h = has_byte byte front rest (both (not (x == byte)) _ h).1
