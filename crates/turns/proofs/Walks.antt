use Rattle.std.proofs.Common.{◌≡◌, ℕ, Bool, true, false, List, [], ◌∷◌, inl, inr, refl, sym, ◌∙◌, ap, Option, Some, None, ◌==◌, Result, Ok, Err, find}
use Rattle.std.proofs.Common.{option_map, slice_index, if◌then◌else◌, eqb-true}
use Rattle.turns.specs.{Seen.{Seen, AreReadFrom}, Script.{Script, Ends, TestThen, SeizeThen, ◌>>=◌, run, is_held, value_read, left, left_of_test}}
use Rattle.turns.specs.{Script.{left_of_seizing, first_wanted, walk}, declared.{reading.Reading.Reading, wanted.Wanted.Wanted}}

-- a result is passed on, and what was needed is still needed
abbrev pub then_walk : {Lock A B : Type 0} → Result A (Wanted Lock ℕ) → (A → Result B (Wanted Lock ℕ)) → Result B (Wanted Lock ℕ)
then_walk (Ok found) next = next found
then_walk (Err wanted) next = Err wanted

-- one script and then another end as the other does after the first one's end
pub run_bind : {Lock A B : Type 0} (words : List ℕ) (script : Script Lock A) (next : A → Script Lock B)
    → run words (script >>= next) ≡ run words (next (run words script))
unfolding run ◌>>=◌
run_bind words (Ends found) next = refl
run_bind words (TestThen word script) next = run_bind words (script (slice_index words word)) next
run_bind words (SeizeThen lock script) next = run_bind words script next

-- what was read in a word is what the word has
pub read_value : (words : List ℕ) (readings : List (Reading ℕ)) (word value : ℕ) → AreReadFrom words readings → value_read readings word ≡ Some value
    → slice_index words word ≡ value
unfolding value_read
read_value words [] word value read e = cc
read_value words (reading ∷ readings) word value read e =
    at (reading.word == word) refl (read_value words readings word value (λ r within. read r (inr within))) e where
      at : (b : Bool) → (reading.word == word) ≡ b → (value_read readings word ≡ Some value → slice_index words word ≡ value)
          → option_map (λ (r : Reading ℕ). r.value) (if b then Some reading else find (λ (r : Reading ℕ). r.word == word) readings) ≡ Some value
          → slice_index words word ≡ value
      at true same later found =
          let here : reading.value ≡ value = cc in
          ap (slice_index words) (sym (eqb-true reading.word word same)) ∙ read reading (inl refl) ∙ here
      at false other later found = later found

module _ {Lock : Type 0} (same : Lock → Lock → Bool) where
  bind_test : {A B : Type 0} (seen : Seen Lock) (word : ℕ) (o : Option ℕ) (script : ℕ → Script Lock A) (next : A → Script Lock B)
      → ((value : ℕ) → walk same seen (script value >>= next) ≡ then_walk (walk same seen (script value)) (λ found. walk same seen (next found)))
      → first_wanted (left_of_test (λ value. script value >>= next) (λ value. left same seen (script value >>= next)) word o)
      ≡ then_walk (first_wanted (left_of_test script (λ value. left same seen (script value)) word o)) (λ found. walk same seen (next found))
  unfolding walk left_of_test first_wanted
  bind_test seen word None script next later = refl
  bind_test seen word (Some value) script next later = later value

  bind_seizing : {A B : Type 0} (seen : Seen Lock) (lock : Lock) (b : Bool) (script : Script Lock A) (next : A → Script Lock B)
      → walk same seen (script >>= next) ≡ then_walk (walk same seen script) (λ found. walk same seen (next found))
      → first_wanted (left_of_seizing (script >>= next) (left same seen (script >>= next)) lock b)
      ≡ then_walk (first_wanted (left_of_seizing script (left same seen script) lock b)) (λ found. walk same seen (next found))
  unfolding walk left_of_seizing first_wanted
  bind_seizing seen lock false script next later = refl
  bind_seizing seen lock true script next later = later

  -- the walk through one script and then another
  pub walk_bind : {A B : Type 0} (seen : Seen Lock) (script : Script Lock A) (next : A → Script Lock B)
      → walk same seen (script >>= next) ≡ then_walk (walk same seen script) (λ found. walk same seen (next found))
  unfolding walk left first_wanted ◌>>=◌
  walk_bind seen (Ends found) next = refl
  walk_bind seen (TestThen word script) next = bind_test seen word (value_read seen.readings word) script next (λ value. walk_bind seen (script value) next)
  walk_bind seen (SeizeThen lock script) next = bind_seizing seen lock (is_held same seen.held lock) script next (walk_bind seen script next)

  -- it goes on if the first one was walked through
  pub walk_goes_on : {A B : Type 0} (seen : Seen Lock) (script : Script Lock A) (next : A → Script Lock B) (found : A) → walk same seen script ≡ Ok found
      → walk same seen (script >>= next) ≡ walk same seen (next found)
  walk_goes_on seen script next found e = rw (walk_bind seen script next, e) refl

  -- and it stops if the first one stopped
  pub walk_stops : {A B : Type 0} (seen : Seen Lock) (script : Script Lock A) (next : A → Script Lock B) (wanted : Wanted Lock ℕ)
      → walk same seen script ≡ Err wanted → walk same seen (script >>= next) ≡ Err wanted
  walk_stops seen script next wanted e = rw (walk_bind seen script next, e) refl

  -- at an end there is nothing to walk
  pub walk_end : {A : Type 0} (seen : Seen Lock) (found : A) → walk same seen (Ends found) ≡ Ok found
  unfolding walk left first_wanted
  walk_end seen found = refl

  -- a walk over readings that are what the words have ends as the script does on the words
  pub walk_run : {A : Type 0} (words : List ℕ) (seen : Seen Lock) (script : Script Lock A) (found : A) → AreReadFrom words seen.readings
      → walk same seen script ≡ Ok found → run words script ≡ found
  unfolding run walk left left_of_test left_of_seizing first_wanted
  walk_run words seen (Ends end) found read e = cc
  walk_run {A} words seen (TestThen word script) found read e =
      at (value_read seen.readings word) refl (λ value. walk_run words seen (script value) found read) e where
        at : (o : Option ℕ) → value_read seen.readings word ≡ o → ((value : ℕ) → walk same seen (script value) ≡ Ok found → run words (script value) ≡ found)
            → first_wanted (left_of_test script (λ value. left same seen (script value)) word o) ≡ Ok found
            → run words (script (slice_index words word)) ≡ found
        at None none later e = absurd cc
        at (Some value) is later e = ap (λ (v : ℕ). run words (script v)) (read_value words seen.readings word value read is) ∙ later value e
  walk_run words seen (SeizeThen lock script) found read e = at (is_held same seen.held lock) (walk_run words seen script found read) e where
    at : (b : Bool) → (walk same seen script ≡ Ok found → run words script ≡ found)
        → first_wanted (left_of_seizing script (left same seen script) lock b) ≡ Ok found → run words script ≡ found
    at false later e = absurd cc
    at true later e = later e
