-- scripts that take each word's value through `change`
use Rattle.std.proofs.Common.{◌≡◌, ℕ, zero, suc, Bool, true, false, List, [], ◌∷◌, ◌++◌, refl, sym, ◌∙◌, ap, Option, Some, None, ◌==◌, find, option_map}
use Rattle.std.proofs.Common.{slice_index, if◌then◌else◌, eqb-true}
use Rattle.turns.specs.{Seen.{Seen, changed_readings}, Script.{Script, Ends, TestThen, SeizeThen, AsksAtMost, run, read_with, is_held, value_read, left}}
use Rattle.turns.specs.{Script.{left_of_test, left_of_seizing, first_wanted, walk}, System.{System, KeepsTo}, declared.reading.Reading.Reading}
use Rattle.turns.proofs.Words.{MakesWords}

-- such a script ends as the plain one does on words changed so
pub run_read_with : {Lock A : Type 0} (words other : List ℕ) (change : ℕ → ℕ → ℕ) (script : Script Lock A)
    → ((word : ℕ) → slice_index other word ≡ change word (slice_index words word)) → run words (read_with change script) ≡ run other script
unfolding run read_with
run_read_with words other change (Ends found) made = refl
run_read_with words other change (TestThen word script) made =
    run_read_with words other change (script (change word (slice_index words word))) made ∙ ap (λ (value : ℕ). run other (script value)) (sym (made word))
run_read_with words other change (SeizeThen lock script) made = run_read_with words other change script made

-- the value read in a word, changed so
pub value_read-changed : (change : ℕ → ℕ → ℕ) (readings : List (Reading ℕ)) (word : ℕ)
    → value_read (changed_readings change readings) word ≡ option_map (change word) (value_read readings word)
unfolding value_read
value_read-changed change [] word = refl
value_read-changed change (reading ∷ readings) word = at (reading.word == word) refl (value_read-changed change readings word) where
  at : (b : Bool) → (reading.word == word) ≡ b → value_read (changed_readings change readings) word ≡ option_map (change word) (value_read readings word)
      → option_map (λ (r : Reading ℕ). r.value) (if b then Some (record { word = reading.word; value = change reading.word reading.value }) else find
      (λ (r : Reading ℕ). r.word == word) (changed_readings change readings))
      ≡ option_map (change word) (option_map (λ (r : Reading ℕ). r.value) (if b then Some reading else find (λ (r : Reading ℕ). r.word == word) readings))
  at true same later = ap (λ (w : ℕ). Some (change w reading.value)) (eqb-true reading.word word same)
  at false other later = later

module _ {Lock : Type 0} (same : Lock → Lock → Bool) where
  -- its walk is that of the plain one on readings changed so
  pub walk_read_with : {A : Type 0} (seen : Seen Lock) (change : ℕ → ℕ → ℕ) (script : Script Lock A)
      → walk same seen (read_with change script) ≡ walk same (record { held = seen.held; readings = changed_readings change seen.readings }) script
  unfolding walk left left_of_test left_of_seizing first_wanted read_with
  walk_read_with seen change (Ends found) = refl
  walk_read_with {A} seen change (TestThen word script) =
      at (value_read seen.readings word) (λ value. walk_read_with seen change (script value))
      ∙ ap (λ (o : Option ℕ). first_wanted (left_of_test script (λ value. left same later (script value)) word o))
      (sym (value_read-changed change seen.readings word)) where
        later : Seen Lock
        later = record { held = seen.held; readings = changed_readings change seen.readings }

        at : (o : Option ℕ)
            → ((value : ℕ)
            → walk same seen (read_with change (script value))
            ≡ walk same (record { held = seen.held; readings = changed_readings change seen.readings }) (script value))
            → first_wanted (left_of_test (λ value. read_with change (script (change word value)))
            (λ value. left same seen (read_with change (script (change word value)))) word o)
            ≡ first_wanted (left_of_test script (λ value. left same (record { held = seen.held; readings = changed_readings change seen.readings })
            (script value)) word (option_map (change word) o))
        at None same = refl
        at (Some value) same = same (change word value)
  walk_read_with {A} seen change (SeizeThen lock script) = at (is_held same seen.held lock) (walk_read_with seen change script) where
    at : (b : Bool)
        → walk same seen (read_with change script) ≡ walk same (record { held = seen.held; readings = changed_readings change seen.readings }) script
        → first_wanted (left_of_seizing (read_with change script) (left same seen (read_with change script)) lock b)
        ≡ first_wanted (left_of_seizing script (left same (record { held = seen.held; readings = changed_readings change seen.readings }) script) lock b)
    at false later = refl
    at true later = later

-- it asks for no more, if 64 bits are changed into 64 bits
pub asks_read_with : {Lock A : Type 0} (change : ℕ → ℕ → ℕ) (tests seizings : ℕ) (script : Script Lock A) → MakesWords change → AsksAtMost tests seizings script
    → AsksAtMost tests seizings (read_with change script)
unfolding AsksAtMost read_with
asks_read_with change tests seizings (Ends found) words asks = tt
asks_read_with change zero seizings (TestThen word script) words asks = asks
asks_read_with change (suc tests) seizings (TestThen word script) words asks =
    λ value below. asks_read_with change tests seizings (script (change word value)) words (asks (change word value) (words word value below))
asks_read_with change tests zero (SeizeThen lock script) words asks = asks
asks_read_with change tests (suc seizings) (SeizeThen lock script) words asks = asks_read_with change tests seizings script words asks

module _ (O : System) where
  open O use {Lock}

  -- and it keeps to what the plain one keeps to
  pub keeps_read_with : {A : Type 0} (Fits : List Lock → A → Type 0) (held : List Lock) (change : ℕ → ℕ → ℕ) (script : Script Lock A) → MakesWords change
      → KeepsTo O Fits held script → KeepsTo O Fits held (read_with change script)
  unfolding KeepsTo read_with
  keeps_read_with Fits held change (Ends found) words keeps = keeps
  keeps_read_with Fits held change (TestThen word script) words keeps =
      (keeps.0, λ value below. keeps_read_with Fits held change (script (change word value)) words (keeps.1 (change word value) (words word value below)))
  keeps_read_with Fits held change (SeizeThen lock script) words keeps = (keeps.0, keeps_read_with Fits (held ++ lock ∷ []) change script words keeps.1)
