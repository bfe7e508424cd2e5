use Rattle.std.proofs.Common.{◌≡◌, ℕ, zero, suc, ◌<◌, ◌^◌, Bool, true, false, List, [], ◌∷◌, ◌++◌, refl, sym, ◌∙◌, ap, subst, Option, Some, None, ◌==◌, ◌||◌}
use Rattle.std.proofs.Common.{Err, find, option_map, if◌then◌else◌, eq-eqb}
use Rattle.turns.specs.Seen.{Seen, AreReadWords}
use Rattle.turns.specs.Script.{Script, Ends, TestThen, SeizeThen, AsksAtMost, is_held, value_read, left, left_of_test, left_of_seizing, first_wanted}
use Rattle.turns.{specs.declared.{reading.Reading.Reading, wanted.Wanted.TheVariants.{Seize, Test}}, proofs.Words.value_read-below}

module _ {Lock : Type 0} (same : Lock → Lock → Bool) (self : (lock : Lock) → same lock lock ≡ true) where
  -- what was held and read still is
  pub record Grows (seen more : Seen Lock) : Type 0 where
    pub held : (lock : Lock) → is_held same seen.held lock ≡ true → is_held same more.held lock ≡ true
    pub readings : (word value : ℕ) → value_read seen.readings word ≡ Some value → value_read more.readings word ≡ Some value

  or_true : (b : Bool) → (b || true) ≡ true
  or_true true = refl
  or_true false = refl

  -- a lock that was seized is held
  pub held_last : (held : List Lock) (lock : Lock) → is_held same (held ++ lock ∷ []) lock ≡ true
  unfolding is_held
  held_last [] lock = ap (λ b. b || false) (self lock)
  held_last (own ∷ held) lock = ap (λ b. same own lock || b) (held_last held lock) ∙ or_true (same own lock)

  -- and so is what was held before
  pub held_before : (held : List Lock) (last lock : Lock) → is_held same held lock ≡ true → is_held same (held ++ last ∷ []) lock ≡ true
  unfolding is_held
  held_before [] last lock e = cc
  held_before (own ∷ held) last lock e = at (same own lock) (held_before held last lock) e where
    at : (b : Bool) → (is_held same held lock ≡ true → is_held same (held ++ last ∷ []) lock ≡ true) → (b || is_held same held lock) ≡ true
        → (b || is_held same (held ++ last ∷ []) lock) ≡ true
    at true later found = refl
    at false later found = later found

  -- the first reading of a word counts, whatever is read later
  pub read_before : (readings : List (Reading ℕ)) (last : Reading ℕ) (word value : ℕ) → value_read readings word ≡ Some value
      → value_read (readings ++ last ∷ []) word ≡ Some value
  unfolding value_read
  read_before [] last word value e = cc
  read_before (reading ∷ readings) last word value e = at (reading.word == word) (read_before readings last word value) e where
    at : (b : Bool) → (value_read readings word ≡ Some value → value_read (readings ++ last ∷ []) word ≡ Some value)
        → option_map (λ (r : Reading ℕ). r.value) (if b then Some reading else find (λ (r : Reading ℕ). r.word == word) readings) ≡ Some value
        → option_map (λ (r : Reading ℕ). r.value) (if b then Some reading else find (λ (r : Reading ℕ). r.word == word) (readings ++ last ∷ [])) ≡ Some value
    at true later found = found
    at false later found = later found

  -- a word that was read has a reading
  pub read_last : (readings : List (Reading ℕ)) (last : Reading ℕ) → (value : ℕ) × (value_read (readings ++ last ∷ []) last.word ≡ Some value)
  unfolding value_read
  read_last [] last = (last.value, ap (λ b. option_map (λ (r : Reading ℕ). r.value) (if b then Some last else None)) (eq-eqb last.word last.word refl))
  read_last (reading ∷ readings) last = at (reading.word == last.word) (read_last readings last) where
    at : (b : Bool) → (value : ℕ) × (value_read (readings ++ last ∷ []) last.word ≡ Some value)
        → (value : ℕ)
        × (option_map (λ (r : Reading ℕ). r.value) (if b then Some reading else find (λ (r : Reading ℕ). r.word == last.word) (readings ++ last ∷ []))
        ≡ Some value)
    at true later = (reading.value, refl)
    at false later = later

  -- what is left of a script with more seen is what is left, with more seen, of what was left
  -- before
  pub left_again : {A : Type 0} (seen more : Seen Lock) (script : Script Lock A) → Grows seen more
      → left same more script ≡ left same more (left same seen script)
  unfolding left left_of_test left_of_seizing
  left_again seen more (Ends found) grows = refl
  left_again seen more (TestThen word script) grows = at (value_read seen.readings word) refl (λ value. left_again seen more (script value) grows) where
    at : (o : Option ℕ) → value_read seen.readings word ≡ o → ((value : ℕ) → left same more (script value) ≡ left same more (left same seen (script value)))
        → left_of_test script (λ value. left same more (script value)) word (value_read more.readings word)
        ≡ left same more (left_of_test script (λ value. left same seen (script value)) word o)
    at None e later = refl
    at (Some value) e later = rw (grows.readings word value e) (later value)
  left_again seen more (SeizeThen lock script) grows = at (is_held same seen.held lock) refl (left_again seen more script grows) where
    at : (b : Bool) → is_held same seen.held lock ≡ b → left same more script ≡ left same more (left same seen script)
        → left_of_seizing script (left same more script) lock (is_held same more.held lock)
        ≡ left same more (left_of_seizing script (left same seen script) lock b)
    at false e later = refl
    at true e later = rw (grows.held lock e) later

  -- a script that asks for no more than this asks for no more than one more
  pub one_more_test : {A : Type 0} (tests seizings : ℕ) (script : Script Lock A) → AsksAtMost tests seizings script → AsksAtMost (suc tests) seizings script
  unfolding AsksAtMost
  one_more_test tests seizings (Ends found) asks = asks
  one_more_test zero seizings (TestThen word script) asks = absurd asks
  one_more_test (suc tests) seizings (TestThen word script) asks = λ value below. one_more_test tests seizings (script value) (asks value below)
  one_more_test tests zero (SeizeThen lock script) asks = absurd asks
  one_more_test tests (suc seizings) (SeizeThen lock script) asks = one_more_test tests seizings script asks

  pub one_more_seizing : {A : Type 0} (tests seizings : ℕ) (script : Script Lock A) → AsksAtMost tests seizings script → AsksAtMost tests (suc seizings) script
  unfolding AsksAtMost
  one_more_seizing tests seizings (Ends found) asks = asks
  one_more_seizing zero seizings (TestThen word script) asks = absurd asks
  one_more_seizing (suc tests) seizings (TestThen word script) asks = λ value below. one_more_seizing tests seizings (script value) (asks value below)
  one_more_seizing tests zero (SeizeThen lock script) asks = absurd asks
  one_more_seizing tests (suc seizings) (SeizeThen lock script) asks = one_more_seizing tests seizings script asks

  -- what is left of a script asks for no more than the script
  pub left_asks : {A : Type 0} (seen : Seen Lock) (tests seizings : ℕ) (script : Script Lock A) → AreReadWords seen.readings → AsksAtMost tests seizings script
      → AsksAtMost tests seizings (left same seen script)
  unfolding left AsksAtMost left_of_test left_of_seizing
  left_asks seen tests seizings (Ends found) read asks = asks
  left_asks seen zero seizings (TestThen word script) read asks = absurd asks
  left_asks seen (suc tests) seizings (TestThen word script) read asks =
      at (value_read seen.readings word) refl (λ value below. left_asks seen tests seizings (script value) read (asks value below)) where
        at : (o : Option ℕ) → value_read seen.readings word ≡ o → ((value : ℕ) → value < 2 ^ 64 → AsksAtMost tests seizings (left same seen (script value)))
            → AsksAtMost (suc tests) seizings (left_of_test script (λ value. left same seen (script value)) word o)
        at None is later = asks
        at (Some value) is later =
            one_more_test tests seizings (left same seen (script value)) (later value (value_read-below seen.readings word value read is))
  left_asks seen tests zero (SeizeThen lock script) read asks = absurd asks
  left_asks seen tests (suc seizings) (SeizeThen lock script) read asks =
      at (is_held same seen.held lock) (left_asks seen tests seizings script read asks) where
        at : (b : Bool) → AsksAtMost tests seizings (left same seen script)
            → AsksAtMost tests (suc seizings) (left_of_seizing script (left same seen script) lock b)
        at false later = asks
        at true later = one_more_seizing tests seizings (left same seen script) later

  -- room for one thing more, and then for what is left
  pub record RoomForOne (room : ℕ) (Rest : ℕ → Type 0) : Type 0 where
    pub rest : ℕ
    pub one : room ≡ suc rest
    pub asks : Rest rest

  -- there is room for a lock that was needed, and with it for the rest
  pub seized_at : {A : Type 0} (seen more : Seen Lock) (lock : Lock) (tests seizings : ℕ) (script rest : Script Lock A) → Grows seen more
      → AreReadWords more.readings → is_held same more.held lock ≡ true → left same seen script ≡ rest → first_wanted rest ≡ Err (Seize lock)
      → AsksAtMost tests seizings rest → RoomForOne seizings (λ n. AsksAtMost tests n (left same more script))
  unfolding first_wanted AsksAtMost left left_of_seizing
  seized_at {A = A} seen more lock tests seizings script (Ends found) grows read own is wants asks = absurd cc
  seized_at {A = A} seen more lock tests seizings script (TestThen word rest) grows read own is wants asks = absurd cc
  seized_at {A = A} seen more lock tests zero script (SeizeThen other rest) grows read own is wants asks = absurd asks
  seized_at {A = A} seen more lock tests (suc seizings) script (SeizeThen other rest) grows read own is wants asks =
      let one : other ≡ lock = cc in
      record {
        rest = seizings;
        one = refl;
        asks =
            subst (λ (s : Script Lock A). AsksAtMost tests seizings s) (sym (left_again seen more script grows ∙ ap (left same more) is ∙ at one))
            (left_asks more tests seizings rest read asks);
      } where
        at : other ≡ lock → left same more (SeizeThen other rest) ≡ left same more rest
        at one = rw (ap (is_held same more.held) one ∙ own) refl

  -- there is room for a reading of a word that was needed, and with it for the rest
  pub read_at : {A : Type 0} (seen more : Seen Lock) (word : ℕ) (tests seizings : ℕ) (script rest : Script Lock A) → Grows seen more
      → AreReadWords more.readings → (value : ℕ) × (value_read more.readings word ≡ Some value) → left same seen script ≡ rest
      → first_wanted rest ≡ Err (Test word) → AsksAtMost tests seizings rest → RoomForOne tests (λ n. AsksAtMost n seizings (left same more script))
  unfolding first_wanted AsksAtMost left left_of_test
  read_at {A = A} seen more word tests seizings script (Ends found) grows read own is wants asks = absurd cc
  read_at {A = A} seen more word tests seizings script (SeizeThen lock rest) grows read own is wants asks = absurd cc
  read_at {A = A} seen more word zero seizings script (TestThen other rest) grows read own is wants asks = absurd asks
  read_at {A = A} seen more word (suc tests) seizings script (TestThen other rest) grows read own is wants asks =
      let one : other ≡ word = cc in
      record {
        rest = tests;
        one = refl;
        asks =
            subst (λ (s : Script Lock A). AsksAtMost tests seizings s) (sym (left_again seen more script grows ∙ ap (left same more) is ∙ at one))
            (left_asks more tests seizings (rest own.0) read (asks own.0 (value_read-below more.readings word own.0 read own.1)));
      } where
        at : other ≡ word → left same more (TestThen other rest) ≡ left same more (rest own.0)
        at one = rw (ap (value_read more.readings) one ∙ own.1) refl
