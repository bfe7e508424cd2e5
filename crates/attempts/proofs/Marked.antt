-- marks of what was read, with one reading more
use Rattle.std.proofs.Common.{◌≡◌, ◌≢◌, ℕ, ◌%◌, ◌^◌, Bool, true, false, List, [], ◌∷◌, ◌++◌, refl, sym, ◌∙◌, ap, arith, bit_or, ◌==◌, None, Some, find}
use Rattle.std.proofs.Common.{option_map, if◌then◌else◌, ne_eqb}
use Rattle.std.{specs.Int.bit_at, proofs.lemmas.{Bool.eqb-false, Nat.Bits.{bit_at_or, bit_at-pow_same, bit_at-lt}}}
use Rattle.{turns.specs.{Script.value_read, declared.reading.Reading.Reading}, attempts.specs.Marks.{AreMarked, has_mark}}

-- what was read in another word
read_else : (readings : List (Reading ℕ)) (last : Reading ℕ) (word : ℕ) → last.word ≢ word → value_read (readings ++ last ∷ []) word ≡ value_read readings word
unfolding value_read
read_else [] last word other = ap (λ (b : Bool). option_map (λ (r : Reading ℕ). r.value) (if b then Some last else None)) (ne_eqb last.word word other)
read_else (reading ∷ readings) last word other = at (reading.word == word) (read_else readings last word other) where
  at : (b : Bool) → value_read (readings ++ last ∷ []) word ≡ value_read readings word
      → option_map (λ (r : Reading ℕ). r.value) (if b then Some reading else find (λ (r : Reading ℕ). r.word == word) (readings ++ last ∷ []))
      ≡ option_map (λ (r : Reading ℕ). r.value) (if b then Some reading else find (λ (r : Reading ℕ). r.word == word) readings)
  at true later = refl
  at false later = later

-- its mark is set, and those that were set stay so
pub marked_more : (readings : List (Reading ℕ)) (marks : ℕ) (last : Reading ℕ) → AreMarked readings marks
    → AreMarked (readings ++ last ∷ []) (bit_or marks (2 ^ (last.word % 64)))
marked_more readings marks last are word unmarked = read_else readings last word other ∙ are word unmarked_before where
  none : bit_at (bit_or marks (2 ^ (last.word % 64))) (word % 64) ≢ 1
  none = eqb-false (bit_at (bit_or marks (2 ^ (last.word % 64))) (word % 64)) 1 unmarked

  other : last.word ≢ word
  other same =
      let here : last.word % 64 ≡ word % 64 = ap (λ (n : ℕ). n % 64) same in
      let set : bit_at (2 ^ (last.word % 64)) (word % 64) ≡ 1 = ap (bit_at (2 ^ (last.word % 64))) (sym here) ∙ bit_at-pow_same (last.word % 64) in
      omega (arith, none, set, bit_at_or marks (2 ^ (last.word % 64)) (word % 64), bit_at-lt marks (word % 64))

  unmarked_before : has_mark marks word ≡ false
  unmarked_before =
      ne_eqb (bit_at marks (word % 64)) 1 (λ set. omega
      (arith, none, set, bit_at_or marks (2 ^ (last.word % 64)) (word % 64), bit_at-lt (2 ^ (last.word % 64)) (word % 64)))

-- if nothing was read, no mark is needed
pub marked_none : AreMarked [] 0
unfolding value_read
marked_none word unmarked = refl
