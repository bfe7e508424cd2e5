-- what was read, without the last readings
use Rattle.std.proofs.Common.{◌≡◌, ℕ, zero, suc, Bool, true, false, List, [], ◌∷◌, refl, sym, ◌∙◌, ap, inl, inr, ◌⊎◌, ◌==◌, Option, Some, None, find}
use Rattle.std.proofs.Common.{if◌then◌else◌, option_map, take, eq-eqb}
use Rattle.turns.specs.{Among.IsIn, Script.value_read, Seen.AreReadWords, declared.reading.Reading.Reading}
use Rattle.attempts.specs.{Marks.AreMarked, Points.HaveOneValue}

-- what is read among the first readings is read, if it is read there at all
read_first : (n : ℕ) (readings : List (Reading ℕ)) (word : ℕ)
    → (value_read (take n readings) word ≡ None) ⊎ (value_read (take n readings) word ≡ value_read readings word)
unfolding value_read
read_first zero readings word = inl refl
read_first (suc n) [] word = inl refl
read_first (suc n) (reading ∷ readings) word = at (reading.word == word) (read_first n readings word) where
  value : Option (Reading ℕ) → Option ℕ
  value = option_map (λ (r : Reading ℕ). r.value)

  at : (b : Bool) → (value_read (take n readings) word ≡ None) ⊎ (value_read (take n readings) word ≡ value_read readings word)
      → (value (if b then Some reading else find (λ (r : Reading ℕ). r.word == word) (take n readings)) ≡ None)
      ⊎ (value (if b then Some reading else find (λ (r : Reading ℕ). r.word == word) (take n readings))
      ≡ value (if b then Some reading else find (λ (r : Reading ℕ). r.word == word) readings))
  at true later = inr refl
  at false later = later

-- a word that has a reading among these was read there
read_of_first : (readings : List (Reading ℕ)) (reading : Reading ℕ) → IsIn reading readings → (value : ℕ) × (value_read readings reading.word ≡ Some value)
unfolding value_read
read_of_first [] reading among = absurd among
read_of_first (other ∷ readings) reading among = at (other.word == reading.word) refl (λ there. read_of_first readings reading there) where
  value : Option (Reading ℕ) → Option ℕ
  value = option_map (λ (r : Reading ℕ). r.value)

  at : (b : Bool) → (other.word == reading.word) ≡ b → (IsIn reading readings → (found : ℕ) × (value_read readings reading.word ≡ Some found))
      → (found : ℕ) × (value (if b then Some other else find (λ (r : Reading ℕ). r.word == reading.word) readings) ≡ Some found)
  at true e later = (other.value, refl)
  at false e later = elim among [
    | inl same ↦ let yes : (other.word == reading.word) ≡ true = eq-eqb other.word reading.word (sym (ap (λ (r : Reading ℕ). r.word) same)) in absurd cc
    | inr there ↦ later there
  ]

among_first : (n : ℕ) (readings : List (Reading ℕ)) (reading : Reading ℕ) → IsIn reading (take n readings) → IsIn reading readings
among_first zero readings reading among = absurd among
among_first (suc n) [] reading among = absurd among
among_first (suc n) (other ∷ readings) reading (inl same) = inl same
among_first (suc n) (other ∷ readings) reading (inr there) = inr (among_first n readings reading there)

pub once_first : (n : ℕ) (readings : List (Reading ℕ)) → HaveOneValue readings → HaveOneValue (take n readings)
once_first n readings once reading among =
    let read = read_of_first (take n readings) reading among in
    elim (read_first n readings reading.word) [
      | inl none ↦ absurd cc
      | inr same ↦ same ∙ once reading (among_first n readings reading among)
    ]

pub marked_first : (n : ℕ) (readings : List (Reading ℕ)) (marks : ℕ) → AreMarked readings marks → AreMarked (take n readings) marks
marked_first n readings marks are word unmarked = elim (read_first n readings word) [ inl none ↦ none | inr same ↦ same ∙ are word unmarked ]

pub words_first : (n : ℕ) (readings : List (Reading ℕ)) → AreReadWords readings → AreReadWords (take n readings)
words_first n readings are reading among = are reading (among_first n readings reading among)
