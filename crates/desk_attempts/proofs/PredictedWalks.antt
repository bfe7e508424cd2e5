-- a walk tests in turn the words that it reads by itself
use Rattle.std.proofs.Common.{◌≡◌, ℕ, Bool, true, false, List, [], ◌∷◌, ◌++◌, ◌+◌, ◌-◌, append-nil, append_assoc, length, refl, sym, ◌∙◌, ap, subst, slice_set}
use Rattle.std.proofs.Common.{arith, Option, Some, None, Result, Ok, drop, slice_get, take, length-append}
use Rattle.std.proofs.Math.Seq.{drop-append_seam, take-append_seam}
use Rattle.turns.specs.{Script.{Script, Ends, TestThen, SeizeThen, is_held, value_read, left, left_of_test, left_of_seizing, first_wanted, walk}, Seen.Seen}
use Rattle.{turns.{specs.declared.{reading.Reading.Reading, wanted.Wanted.Wanted}, proofs.Room.{Grows, held_last}}, desk_attempts.specs.Speculation.Predicts}
use Rattle.attempts.specs.WalkOnWords.{WalkState, WalkOutcome, with_reading, with_lock, read_at_once, may_seize, walk_on_words_test, walk_on_words_seize}
use Rattle.attempts.{specs.WalkOnWords.walk_on_words, proofs.{WalksOnWords.{grows_reading, grows_lock}, ReadOnce.read_new}}

module _ {Lock A : Type 0} (same : Lock → Lock → Bool) (self : (lock : Lock) → same lock lock ≡ true) (lock_word : Lock → ℕ) (reads seizes : ℕ)
    (total : Script Lock A) where
  abbrev plain : Script Lock A → WalkState Lock → List ℕ → WalkOutcome Lock A
  plain = walk_on_words same lock_word reads seizes (λ word value. value)

  -- this script is what is left of the whole one, given what was seen
  abbrev pub IsRest : Script Lock A → Seen Lock → Type 0
  IsRest script seen = (more : Seen Lock) → Grows same self seen more → walk same more total ≡ walk same more script

  -- what a walk has seized and read by itself: these locks and these readings, which it tested in
  -- turn if there is no lock among them
  pub record LooksAhead (state : WalkState Lock) (comes : WalkOutcome Lock A) : Type 0 where
    pub held : List Lock
    pub more_held : comes.state.seen.held ≡ state.seen.held ++ held
    pub read : List (Reading ℕ)
    pub more_read : comes.state.seen.readings ≡ state.seen.readings ++ read
    pub predicts : held ≡ [] → Predicts same total state.seen read comes.found

  -- it seizes and reads nothing
  stops : (script : Script Lock A) (state : WalkState Lock) (words : List ℕ) (found : Result A (Wanted Lock ℕ)) → IsRest script state.seen
      → walk same state.seen script ≡ found → LooksAhead state (record { found = found; state = state; words = words })
  unfolding Predicts
  stops script state words found rest is = record {
    held = [];
    more_held = sym (append-nil state.seen.held);
    read = [];
    more_read = sym (append-nil state.seen.readings);
    predicts = λ none. rest state.seen (record { held = λ lock held. held; readings = λ w v read. read }) ∙ is;
  }

  pub looks_ahead : (script : Script Lock A) (state : WalkState Lock) (words : List ℕ) → IsRest script state.seen → LooksAhead state (plain script state words)
  unfolding walk_on_words walk_on_words_test walk_on_words_seize walk left left_of_test left_of_seizing first_wanted Predicts
  looks_ahead (Ends found) state words rest = stops (Ends found) state words (Ok found) rest refl
  looks_ahead (TestThen word script) state words rest =
      at (value_read state.seen.readings word) (read_at_once state.left (reads - length state.seen.readings) words word) refl
      (λ value more. looks_ahead (script value) more words) where
        at : (read now : Option ℕ) → value_read state.seen.readings word ≡ read
            → ((value : ℕ) (more : WalkState Lock) → IsRest (script value) more.seen → LooksAhead more (plain (script value) more words))
            → LooksAhead state (walk_on_words_test same lock_word reads seizes (λ word value. value) (λ value. plain (script value)) word state words read now)
        at (Some value) now is later = later value state (λ more grows. rest more grows ∙ rw (grows.readings word value is) refl)
        at None None is later = stops (TestThen word script) state words _ rest (rw is refl)
        at None (Some value) is later = record {
          held = then_looks.held;
          more_held = then_looks.more_held;
          read = record { word = word; value = value } ∷ then_looks.read;
          more_read = then_looks.more_read ∙ append_assoc state.seen.readings (record { word = word; value = value } ∷ []) then_looks.read;
          predicts = λ none. (rest state.seen (record { held = λ lock held. held; readings = λ w v read. read }) ∙ rw is refl, then_looks.predicts none);
        } where
          more : WalkState Lock
          more = with_reading state word value

          then_looks : LooksAhead more (plain (script value) more words)
          then_looks = later value more (λ further grows. rest further (record {
            held = λ lock held. grows.held lock held;
            readings = λ w v read. grows.readings w v ((grows_reading same self lock_word reads seizes state word value).readings w v read);
          }) ∙ rw (grows.readings word value (read_new state.seen.readings (record { word = word; value = value }) is)) refl)
  looks_ahead (SeizeThen lock script) state words rest =
      at (is_held same state.seen.held lock) (may_seize state.left (seizes - length state.seen.held) (slice_get words (lock_word lock))) refl
      (λ more after. looks_ahead script more after) where
        at : (held now : Bool) → is_held same state.seen.held lock ≡ held
            → ((more : WalkState Lock) (after : List ℕ) → IsRest script more.seen → LooksAhead more (plain script more after))
            → LooksAhead state (walk_on_words_seize same lock_word reads seizes (λ word value. value) (plain script) lock state words held now)
        at true now is later = later state words (λ more grows. rest more grows ∙ rw (grows.held lock is) refl)
        at false false is later = stops (SeizeThen lock script) state words _ rest (rw is refl)
        at false true is later = record {
          held = lock ∷ then_looks.held;
          more_held = then_looks.more_held ∙ append_assoc state.seen.held (lock ∷ []) then_looks.held;
          read = then_looks.read;
          more_read = then_looks.more_read;
          predicts = λ none. absurd cc;
        } where
          more : WalkState Lock
          more = with_lock state lock

          then_looks : LooksAhead more (plain script more (slice_set words (lock_word lock) state.held_word))
          then_looks = later more (slice_set words (lock_word lock) state.held_word) (λ further grows. rest further (record {
            held = λ l held. grows.held l ((grows_lock same self lock_word reads seizes state lock).held l held);
            readings = λ w v read. grows.readings w v read;
          }) ∙ rw (grows.held lock (held_last same self state.seen.held lock)) refl)

  empty : {B : Type 0} (l : List B) → length l ≡ 0 → l ≡ []
  empty [] e = refl
  empty (x ∷ l) e = absurd (omega (arith, e))

  -- what was seen before, and what was read by the walk itself
  pub record Looked (state : WalkState Lock) (found : Result A (Wanted Lock ℕ)) (more : WalkState Lock) (count locks : ℕ) : Type 0 where
    pub back_held : take locks more.seen.held ≡ state.seen.held
    pub back_read : take count more.seen.readings ≡ state.seen.readings
    pub predicts : length more.seen.held ≡ locks → Predicts same total state.seen (drop count more.seen.readings) found
    pub held : length more.seen.held ≡ locks → more.seen.held ≡ state.seen.held
    pub read : more.seen.readings ≡ state.seen.readings ++ drop count more.seen.readings

  pub looked : (state : WalkState Lock) (words : List ℕ) (found : Result A (Wanted Lock ℕ)) (more : WalkState Lock) (after : List ℕ) (count locks : ℕ)
      → record { found = found; state = more; words = after } ≡ plain total state words
      → count ≡ length state.seen.readings → locks ≡ length state.seen.held → Looked state found more count locks
  looked state words found more after count locks walks counts held_counts = record {
    back_held = ap (λ (n : ℕ). take n more.seen.held) held_counts ∙ ap (take (length state.seen.held)) more_held ∙ take-append_seam state.seen.held looks.held;
    back_read =
        ap (λ (n : ℕ). take n more.seen.readings) counts ∙ ap (take (length state.seen.readings)) more_read ∙ take-append_seam state.seen.readings looks.read;
    predicts =
        λ e. subst (λ (l : List (Reading ℕ)). Predicts same total state.seen l found) (sym rest_is)
        (subst (Predicts same total state.seen looks.read) (sym found_is) (looks.predicts (none e)));
    held = λ e. more_held ∙ ap (λ (l : List Lock). state.seen.held ++ l) (none e) ∙ append-nil state.seen.held;
    read = more_read ∙ ap (λ (l : List (Reading ℕ)). state.seen.readings ++ l) (sym rest_is);
  } where
    looks : LooksAhead state (plain total state words)
    looks = looks_ahead total state words (λ further grows. refl)

    found_is : found ≡ (plain total state words).found
    found_is = ap (λ (c : WalkOutcome Lock A). c.found) walks

    more_held : more.seen.held ≡ state.seen.held ++ looks.held
    more_held = ap (λ (c : WalkOutcome Lock A). c.state.seen.held) walks ∙ looks.more_held

    more_read : more.seen.readings ≡ state.seen.readings ++ looks.read
    more_read = ap (λ (c : WalkOutcome Lock A). c.state.seen.readings) walks ∙ looks.more_read

    rest_is : drop count more.seen.readings ≡ looks.read
    rest_is =
        ap (λ (n : ℕ). drop n more.seen.readings) counts ∙ ap (drop (length state.seen.readings)) more_read ∙ drop-append_seam state.seen.readings looks.read

    none : length more.seen.held ≡ locks → looks.held ≡ []
    none e =
        let all : length more.seen.held ≡ length state.seen.held + length looks.held = ap length more_held ∙ length-append state.seen.held looks.held in
        empty looks.held (omega (arith, e, all, held_counts))
