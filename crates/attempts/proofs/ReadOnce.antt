-- no word is read twice, since a walk needs no word that was read
use Rattle.std.proofs.Common.{◌≡◌, ℕ, zero, suc, ◌<◌, Bool, true, false, cond, List, [], ◌∷◌, ◌++◌, length, inl, inr, nat_lt, refl, sym, ◌∙◌, ap, subst, arith}
use Rattle.std.proofs.Common.{Option, Some, None, ◌==◌, Err, find, get_or, option_and_then, option_map, slice_get, if◌then◌else◌, position, eq-eqb}
use Rattle.{std.{specs.List.position_or_len, proofs.lemmas.{Bool.Decides.nat_tests, List.Folds.find_at, Option.slice_get_past}}, turns.specs.Among.IsIn}
use Rattle.turns.specs.{Script.{Script, Ends, TestThen, SeizeThen, first_wanted, is_held, left, left_of_test, left_of_seizing, value_read, walk}, Seen.Seen}
use Rattle.{turns.{specs.declared.{reading.Reading.Reading, wanted.Wanted.TheVariants.Test}, proofs.Lists.in_either}, attempts.specs.Points.HaveOneValue}

-- the word that a walk needs next was not read
pub wants_unread : {Lock A : Type 0} (same : Lock → Lock → Bool) (seen : Seen Lock) (word : ℕ) (script : Script Lock A)
    → walk same seen script ≡ Err (Test word) → value_read seen.readings word ≡ None
unfolding walk left left_of_test left_of_seizing first_wanted
wants_unread {Lock} {A} same seen word (Ends found) wants = cc
wants_unread {Lock} {A} same seen word (TestThen other script) wants =
    at (value_read seen.readings other) refl (λ value. wants_unread same seen word (script value)) wants where
      at : (o : Option ℕ) → value_read seen.readings other ≡ o
          → ((value : ℕ) → walk same seen (script value) ≡ Err (Test word) → value_read seen.readings word ≡ None)
          → first_wanted (left_of_test script (λ value. left same seen (script value)) other o) ≡ Err (Test word) → value_read seen.readings word ≡ None
      at None none later e = let here : other ≡ word = cc in ap (value_read seen.readings) (sym here) ∙ none
      at (Some value) is later e = later value e
wants_unread {Lock} {A} same seen word (SeizeThen lock script) wants = at (is_held same seen.held lock) (wants_unread same seen word script) wants where
  at : (b : Bool) → (walk same seen script ≡ Err (Test word) → value_read seen.readings word ≡ None)
      → first_wanted (left_of_seizing script (left same seen script) lock b) ≡ Err (Test word) → value_read seen.readings word ≡ None
  at false later e = absurd cc
  at true later e = later e

-- a word that was not read, once it is
pub read_new : (readings : List (Reading ℕ)) (last : Reading ℕ) → value_read readings last.word ≡ None
    → value_read (readings ++ last ∷ []) last.word ≡ Some last.value
unfolding value_read
read_new [] last unread = ap (λ b. option_map (λ (r : Reading ℕ). r.value) (if b then Some last else None)) (eq-eqb last.word last.word refl)
read_new (reading ∷ readings) last unread = at (reading.word == last.word) (read_new readings last) unread where
  at : (b : Bool) → (value_read readings last.word ≡ None → value_read (readings ++ last ∷ []) last.word ≡ Some last.value)
      → option_map (λ (r : Reading ℕ). r.value) (if b then Some reading else find (λ (r : Reading ℕ). r.word == last.word) readings) ≡ None
      → option_map (λ (r : Reading ℕ). r.value) (if b then Some reading else find (λ (r : Reading ℕ). r.word == last.word) (readings ++ last ∷ []))
      ≡ Some last.value
  at true later none = absurd cc
  at false later none = later none

-- what was read in a word is, with one reading more
read_still : (readings : List (Reading ℕ)) (last : Reading ℕ) (word value : ℕ) → value_read readings word ≡ Some value
    → value_read (readings ++ last ∷ []) word ≡ Some value
unfolding value_read
read_still [] last word value e = absurd cc
read_still (reading ∷ readings) last word value e = at (reading.word == word) (read_still readings last word value) e where
  at : (b : Bool) → (value_read readings word ≡ Some value → value_read (readings ++ last ∷ []) word ≡ Some value)
      → option_map (λ (r : Reading ℕ). r.value) (if b then Some reading else find (λ (r : Reading ℕ). r.word == word) readings) ≡ Some value
      → option_map (λ (r : Reading ℕ). r.value) (if b then Some reading else find (λ (r : Reading ℕ). r.word == word) (readings ++ last ∷ [])) ≡ Some value
  at true later e = e
  at false later e = later e

-- with one reading more of a word that was not read
pub once_more : (readings more : List (Reading ℕ)) (last : Reading ℕ) → more ≡ readings ++ last ∷ [] → HaveOneValue readings
    → value_read readings last.word ≡ None → HaveOneValue more
once_more readings more last is once unread =
    subst (λ (all : List (Reading ℕ)). HaveOneValue all) (sym is) (λ reading within. elim (in_either reading readings (last ∷ []) within) [
      | inl front ↦ read_still readings last reading.word reading.value (once reading front)
      | inr (inl e) ↦ subst (λ (r : Reading ℕ). value_read (readings ++ last ∷ []) r.word ≡ Some r.value) (sym e) (read_new readings last unread)
      | inr (inr none) ↦ absurd none
    ])

-- what is at a place of a list is one of its items
item_within : (items : List (Reading ℕ)) (at : ℕ) (other : Reading ℕ) → at < length items → IsIn (get_or items at other) items
item_within [] at other below = absurd (omega arith)
item_within (first ∷ items) zero other below = inl refl
item_within (first ∷ items) (suc at) other below = inr (item_within items at other (omega arith))

-- a reading of a word, wherever it is, is what was read in that word
pub read_at_place : (readings : List (Reading ℕ)) (at word : ℕ) (other : Reading ℕ) → HaveOneValue readings → at < length readings
    → (get_or readings at other).word ≡ word → Some (get_or readings at other).value ≡ value_read readings word
read_at_place readings at word other once below here =
    sym (once (get_or readings at other) (item_within readings at other below)) ∙ ap (value_read readings) here

-- what was read in a word is in its first reading
pub read_there : (readings : List (Reading ℕ)) (word : ℕ)
    → value_read readings word
    ≡ option_and_then (λ place. option_map (λ (r : Reading ℕ). r.value) (slice_get readings place)) (position (λ (r : Reading ℕ). r.word == word) readings)
unfolding value_read
read_there readings word =
    ap (option_map (λ (r : Reading ℕ). r.value)) (find_at (λ (r : Reading ℕ). r.word == word) readings)
    ∙ at (nat_lt n (length readings)) refl where
      n : ℕ
      n = position_or_len (λ (r : Reading ℕ). r.word == word) readings

      at : (b : Bool) → nat_lt n (length readings) ≡ b
          → option_map (λ (r : Reading ℕ). r.value) (slice_get readings n)
          ≡ option_and_then (λ place. option_map (λ (r : Reading ℕ). r.value) (slice_get readings place)) (cond b (Some n) None)
      at true is = refl
      at false is = ap (option_map (λ (r : Reading ℕ). r.value)) (slice_get_past readings n (grind (arith, nat_tests)))
