-- a walk that makes steps of its own ends as a plain walk does on all that it has seen by then
use Rattle.std.proofs.Common.{◌≡◌, ℕ, zero, suc, Bool, true, false, List, [], ◌-◌, length, refl, ◌∙◌, ap, slice_set, Option, Some, None, Result, Ok, Err}
use Rattle.std.proofs.Common.{slice_get}
use Rattle.turns.specs.Script.{Script, Ends, TestThen, SeizeThen, ◌>>=◌, test, read_with, is_held, value_read, left, left_of_test, left_of_seizing}
use Rattle.turns.{specs.{Script.{first_wanted, walk}, Seen.Seen, declared.wanted.Wanted.Wanted}, proofs.Room.{Grows, held_before, held_last, read_before}}
use Rattle.attempts.specs.{Points.Extends, WalkOnWords.{WalkState, WalkOutcome, with_reading, with_lock, read_at_once, may_seize, walk_on_words_test}}
use Rattle.attempts.{specs.WalkOnWords.{walk_on_words_seize, walk_on_words}, proofs.ReadOnce.read_new}

module _ {Lock : Type 0} (same : Lock → Lock → Bool) (lock_word : Lock → ℕ) (reads seizes : ℕ) (change : ℕ → ℕ → ℕ) where
  -- a result is passed on, and what was needed is still needed
  abbrev pub then_live : {A B : Type 0} → Result A (Wanted Lock ℕ) → WalkState Lock → List ℕ → (A → WalkState Lock → List ℕ → WalkOutcome Lock B)
      → WalkOutcome Lock B
  then_live (Ok found) state words next = next found state words
  then_live (Err wanted) state words next = record { found = Err wanted; state = state; words = words }

  abbrev pub then_on : {A B : Type 0} → WalkOutcome Lock A → (A → WalkState Lock → List ℕ → WalkOutcome Lock B) → WalkOutcome Lock B
  then_on comes next = then_live comes.found comes.state comes.words next

  -- at an end there is nothing to do
  pub live_end : {A : Type 0} (found : A) (state : WalkState Lock) (words : List ℕ)
      → walk_on_words same lock_word reads seizes change (Ends found) state words ≡ record { found = Ok found; state = state; words = words }
  unfolding walk_on_words
  live_end found state words = refl

  -- through one script and then another
  pub live_bind : {A B : Type 0} (script : Script Lock A) (next : A → Script Lock B) (state : WalkState Lock) (words : List ℕ)
      → walk_on_words same lock_word reads seizes change (script >>= next) state words
      ≡ then_on (walk_on_words same lock_word reads seizes change script state words) (λ found. walk_on_words same lock_word reads seizes change (next found))
  unfolding walk_on_words walk_on_words_test walk_on_words_seize ◌>>=◌
  live_bind (Ends found) next state words = refl
  live_bind {A} {B} (TestThen word script) next state words =
      at (value_read state.seen.readings word) (read_at_once state.left (reads - length state.seen.readings) words word)
      (λ value more. live_bind (script value) next more words) where
        at : (read now : Option ℕ)
            → ((value : ℕ) (more : WalkState Lock)
            → walk_on_words same lock_word reads seizes change (script value >>= next) more words
            ≡ then_on (walk_on_words same lock_word reads seizes change (script value) more words)
            (λ found. walk_on_words same lock_word reads seizes change (next found)))
            → walk_on_words_test same lock_word reads seizes change (λ value. walk_on_words same lock_word reads seizes change (script value >>= next)) word
            state words read now
            ≡ then_on (walk_on_words_test same lock_word reads seizes change (λ value. walk_on_words same lock_word reads seizes change (script value)) word
            state words read now) (λ found. walk_on_words same lock_word reads seizes change (next found))
        at (Some value) now later = later (change word value) state
        at None (Some value) later = later (change word value) (with_reading state word value)
        at None None later = refl
  live_bind {A} {B} (SeizeThen lock script) next state words =
      at (is_held same state.seen.held lock) (may_seize state.left (seizes - length state.seen.held) (slice_get words (lock_word lock)))
      (λ more after. live_bind script next more after) where
        at : (held now : Bool)
            → ((more : WalkState Lock) (after : List ℕ)
            → walk_on_words same lock_word reads seizes change (script >>= next) more after
            ≡ then_on (walk_on_words same lock_word reads seizes change script more after)
            (λ found. walk_on_words same lock_word reads seizes change (next found)))
            → walk_on_words_seize same lock_word reads seizes change (walk_on_words same lock_word reads seizes change (script >>= next)) lock state words held
            now
            ≡ then_on (walk_on_words_seize same lock_word reads seizes change (walk_on_words same lock_word reads seizes change script) lock state words held
            now) (λ found. walk_on_words same lock_word reads seizes change (next found))
        at true now later = later state words
        at false true later = later (with_lock state lock) (slice_set words (lock_word lock) state.held_word)
        at false false later = refl

  -- a test whose value is taken through `change`
  pub live_test_with : (word : ℕ) (state : WalkState Lock) (words : List ℕ)
      → walk_on_words same lock_word reads seizes change (test word) state words
      ≡ then_on (walk_on_words same lock_word reads seizes (λ word value. value) (test word) state words)
      (λ value more after. record { found = Ok (change word value); state = more; words = after })
  unfolding walk_on_words walk_on_words_test
  live_test_with word state words = at (value_read state.seen.readings word) (read_at_once state.left (reads - length state.seen.readings) words word) where
    at : (read now : Option ℕ)
        → walk_on_words_test same lock_word reads seizes change (λ value. walk_on_words same lock_word reads seizes change (Ends value)) word state words read
        now
        ≡ then_on (walk_on_words_test same lock_word reads seizes (λ word value. value)
        (λ value. walk_on_words same lock_word reads seizes (λ word value. value) (Ends value)) word state words read now)
        (λ value more after. record { found = Ok (change word value); state = more; words = after })
    at (Some value) now = refl
    at None (Some value) = refl
    at None None = refl

  -- to take values through `change` is to walk through the script that does so
  pub live_read_with : {A : Type 0} (script : Script Lock A) (state : WalkState Lock) (words : List ℕ)
      → walk_on_words same lock_word reads seizes change script state words
      ≡ walk_on_words same lock_word reads seizes (λ word value. value) (read_with change script) state words
  unfolding walk_on_words walk_on_words_test walk_on_words_seize read_with
  live_read_with (Ends found) state words = refl
  live_read_with {A} (TestThen word script) state words =
      at (value_read state.seen.readings word) (read_at_once state.left (reads - length state.seen.readings) words word)
      (λ value more. live_read_with (script value) more words) where
        at : (read now : Option ℕ)
            → ((value : ℕ) (more : WalkState Lock)
            → walk_on_words same lock_word reads seizes change (script value) more words
            ≡ walk_on_words same lock_word reads seizes (λ word value. value) (read_with change (script value)) more words)
            → walk_on_words_test same lock_word reads seizes change (λ value. walk_on_words same lock_word reads seizes change (script value)) word state words
            read now
            ≡ walk_on_words_test same lock_word reads seizes (λ word value. value)
            (λ value. walk_on_words same lock_word reads seizes (λ word value. value) (read_with change (script (change word value)))) word state words read now
        at (Some value) now later = later (change word value) state
        at None (Some value) later = later (change word value) (with_reading state word value)
        at None None later = refl
  live_read_with {A} (SeizeThen lock script) state words =
      at (is_held same state.seen.held lock) (may_seize state.left (seizes - length state.seen.held) (slice_get words (lock_word lock)))
      (λ more after. live_read_with script more after) where
        at : (held now : Bool)
            → ((more : WalkState Lock) (after : List ℕ)
            → walk_on_words same lock_word reads seizes change script more after
            ≡ walk_on_words same lock_word reads seizes (λ word value. value) (read_with change script) more after)
            → walk_on_words_seize same lock_word reads seizes change (walk_on_words same lock_word reads seizes change script) lock state words held now
            ≡ walk_on_words_seize same lock_word reads seizes (λ word value. value)
            (walk_on_words same lock_word reads seizes (λ word value. value) (read_with change script)) lock state words held now
        at true now later = later state words
        at false true later = later (with_lock state lock) (slice_set words (lock_word lock) state.held_word)
        at false false later = refl

module _ {Lock : Type 0} (same : Lock → Lock → Bool) (self : (lock : Lock) → same lock lock ≡ true) (lock_word : Lock → ℕ) (reads seizes : ℕ) where
  abbrev pub plain : {A : Type 0} → Script Lock A → WalkState Lock → List ℕ → WalkOutcome Lock A
  plain = walk_on_words same lock_word reads seizes (λ word value. value)

  grows_self : (seen : Seen Lock) → Grows same self seen seen
  grows_self seen = record { held = λ lock held. held; readings = λ word value read. read }

  grows_on : (a b c : Seen Lock) → Grows same self a b → Grows same self b c → Grows same self a c
  grows_on a b c first second = record {
    held = λ lock held. second.held lock (first.held lock held);
    readings = λ word value read. second.readings word value (first.readings word value read);
  }

  pub grows_reading : (state : WalkState Lock) (word value : ℕ) → Grows same self state.seen (with_reading state word value).seen
  grows_reading state word value = record {
    held = λ lock held. held;
    readings = λ w v read. read_before same self state.seen.readings (record { word = word; value = value }) w v read;
  }

  pub grows_lock : (state : WalkState Lock) (lock : Lock) → Grows same self state.seen (with_lock state lock).seen
  grows_lock state lock = record {
    held = λ l held. held_before same self state.seen.held lock l held;
    readings = λ word value read. read;
  }

  -- what was held and read still is
  pub live_grows : {A : Type 0} (script : Script Lock A) (state : WalkState Lock) (words : List ℕ)
      → Grows same self state.seen (plain script state words).state.seen
  unfolding walk_on_words walk_on_words_test walk_on_words_seize
  live_grows (Ends found) state words = grows_self state.seen
  live_grows {A} (TestThen word script) state words =
      at (value_read state.seen.readings word) (read_at_once state.left (reads - length state.seen.readings) words word)
      (λ value more. live_grows (script value) more words) where
        at : (read now : Option ℕ) → ((value : ℕ) (more : WalkState Lock) → Grows same self more.seen (plain (script value) more words).state.seen)
            → Grows same self state.seen (walk_on_words_test same lock_word reads seizes (λ word value. value) (λ value. plain (script value)) word state words
            read now).state.seen
        at (Some value) now later = later value state
        at None (Some value) later =
            grows_on state.seen (with_reading state word value).seen (plain (script value) (with_reading state word value) words).state.seen
            (grows_reading state word value) (later value (with_reading state word value))
        at None None later = grows_self state.seen
  live_grows {A} (SeizeThen lock script) state words =
      at (is_held same state.seen.held lock) (may_seize state.left (seizes - length state.seen.held) (slice_get words (lock_word lock)))
      (λ more after. live_grows script more after) where
        at : (held now : Bool) → ((more : WalkState Lock) (after : List ℕ) → Grows same self more.seen (plain script more after).state.seen)
            → Grows same self state.seen (walk_on_words_seize same lock_word reads seizes (λ word value. value) (plain script) lock state words held
            now).state.seen
        at true now later = later state words
        at false true later = let after : List ℕ = slice_set words (lock_word lock) state.held_word in
            grows_on state.seen (with_lock state lock).seen (plain script (with_lock state lock) after).state.seen (grows_lock state lock)
            (later (with_lock state lock) after)
        at false false later = grows_self state.seen

  -- it leads to where a plain walk leads on all that it has seen
  pub live_walks : {A : Type 0} (script : Script Lock A) (state : WalkState Lock) (words : List ℕ)
      → walk same (plain script state words).state.seen script ≡ (plain script state words).found
  unfolding walk_on_words walk_on_words_test walk_on_words_seize walk left left_of_test left_of_seizing first_wanted
  live_walks (Ends found) state words = refl
  live_walks {A} (TestThen word script) state words =
      at (value_read state.seen.readings word) (read_at_once state.left (reads - length state.seen.readings) words word) refl
      (λ value more. live_walks (script value) more words) where
        at : (read now : Option ℕ) → value_read state.seen.readings word ≡ read
            → ((value : ℕ) (more : WalkState Lock)
            → walk same (plain (script value) more words).state.seen (script value) ≡ (plain (script value) more words).found)
            → (let comes : WalkOutcome Lock A =
            walk_on_words_test same lock_word reads seizes (λ word value. value) (λ value. plain (script value)) word state words read now in
            first_wanted (left_of_test script (λ value. left same comes.state.seen (script value)) word (value_read comes.state.seen.readings word))
            ≡ comes.found)
        at (Some value) now is later = rw ((live_grows (script value) state words).readings word value is) (later value state)
        at None (Some value) is later =
            let more : WalkState Lock = with_reading state word value in
            rw ((live_grows (script value) more words).readings word value (read_new state.seen.readings (record { word = word; value = value }) is))
            (later value more)
        at None None is later = rw is refl
  live_walks {A} (SeizeThen lock script) state words =
      at (is_held same state.seen.held lock) (may_seize state.left (seizes - length state.seen.held) (slice_get words (lock_word lock))) refl
      (λ more after. live_walks script more after) where
        at : (held now : Bool) → is_held same state.seen.held lock ≡ held
            → ((more : WalkState Lock) (after : List ℕ) → walk same (plain script more after).state.seen script ≡ (plain script more after).found)
            → (let comes : WalkOutcome Lock A =
            walk_on_words_seize same lock_word reads seizes (λ word value. value) (plain script) lock state words held now in
            first_wanted (left_of_seizing script (left same comes.state.seen script) lock (is_held same comes.state.seen.held lock)) ≡ comes.found)
        at true now is later = rw ((live_grows script state words).held lock is) (later state words)
        at false true is later =
            let more : WalkState Lock = with_lock state lock in
            let after : List ℕ = slice_set words (lock_word lock) state.held_word in
            rw ((live_grows script more after).held lock (held_last same self state.seen.held lock)) (later more after)
        at false false is later = rw is refl

  -- what was walked through before takes no step
  pub live_known : {A : Type 0} (script : Script Lock A) (found : A) (state : WalkState Lock) (words : List ℕ) → walk same state.seen script ≡ Ok found
      → plain script state words ≡ record { found = Ok found; state = state; words = words }
  unfolding walk_on_words walk_on_words_test walk_on_words_seize walk left left_of_test left_of_seizing first_wanted
  live_known (Ends end) found state words e = ap (λ r. record { found = r; state = state; words = words }) e
  live_known {A} (TestThen word script) found state words e =
      at (value_read state.seen.readings word) (λ value. live_known (script value) found state words) e where
        at : (read : Option ℕ)
            → ((value : ℕ) → walk same state.seen (script value) ≡ Ok found
            → plain (script value) state words ≡ record { found = Ok found; state = state; words = words })
            → first_wanted (left_of_test script (λ value. left same state.seen (script value)) word read) ≡ Ok found
            → walk_on_words_test same lock_word reads seizes (λ word value. value) (λ value. plain (script value)) word state words read
            (read_at_once state.left (reads - length state.seen.readings) words word) ≡ record { found = Ok found; state = state; words = words }
        at None later e = absurd cc
        at (Some value) later e = later value e
  live_known {A} (SeizeThen lock script) found state words e =
      at (is_held same state.seen.held lock) (live_known script found state words) e where
        at : (held : Bool) → (walk same state.seen script ≡ Ok found → plain script state words ≡ record { found = Ok found; state = state; words = words })
            → first_wanted (left_of_seizing script (left same state.seen script) lock held) ≡ Ok found
            → walk_on_words_seize same lock_word reads seizes (λ word value. value) (plain script) lock state words held
            (may_seize state.left (seizes - length state.seen.held) (slice_get words (lock_word lock)))
            ≡ record { found = Ok found; state = state; words = words }
        at false later e = absurd cc
        at true later e = later e

module _ {Lock : Type 0} (same : Lock → Lock → Bool) (lock_word : Lock → ℕ) (reads seizes : ℕ) where
  abbrev by_it : {A : Type 0} → Script Lock A → WalkState Lock → List ℕ → WalkOutcome Lock A
  by_it = walk_on_words same lock_word reads seizes (λ word value. value)

  none_read : (left room word : ℕ) → read_at_once left room [] word ≡ None
  none_read zero room word = refl
  none_read (suc left) zero word = refl
  none_read (suc left) (suc room) word = refl

  none_seized : (left room word : ℕ) → may_seize left room (slice_get [] word) ≡ false
  none_seized zero room word = refl
  none_seized (suc zero) room word = refl
  none_seized (suc (suc left)) zero word = refl
  none_seized (suc (suc left)) (suc room) word = refl

  -- without words it is a plain walk on what was seen
  pub walk_none : {A : Type 0} (script : Script Lock A) (state : WalkState Lock)
      → by_it script state [] ≡ record { found = walk same state.seen script; state = state; words = [] }
  unfolding walk_on_words walk_on_words_test walk_on_words_seize walk left left_of_test left_of_seizing first_wanted
  walk_none (Ends found) state = refl
  walk_none {A} (TestThen word script) state =
      ap (λ (now : Option ℕ). walk_on_words_test same lock_word reads seizes (λ word value. value) (λ value. by_it (script value)) word state []
      (value_read state.seen.readings word) now) (none_read state.left (reads - length state.seen.readings) word)
      ∙ at (value_read state.seen.readings word) (λ value. walk_none (script value) state) where
        at : (read : Option ℕ)
            → ((value : ℕ) → by_it (script value) state [] ≡ record { found = walk same state.seen (script value); state = state; words = [] })
            → walk_on_words_test same lock_word reads seizes (λ word value. value) (λ value. by_it (script value)) word state [] read None
            ≡ record { found = first_wanted (left_of_test script (λ value. left same state.seen (script value)) word read); state = state; words = [] }
        at None later = refl
        at (Some value) later = later value
  walk_none {A} (SeizeThen lock script) state =
      ap (λ (now : Bool). walk_on_words_seize same lock_word reads seizes (λ word value. value) (by_it script) lock state [] (is_held same state.seen.held lock)
      now) (none_seized state.left (seizes - length state.seen.held) (lock_word lock))
      ∙ at (is_held same state.seen.held lock) (walk_none script state) where
        at : (held : Bool) → by_it script state [] ≡ record { found = walk same state.seen script; state = state; words = [] }
            → walk_on_words_seize same lock_word reads seizes (λ word value. value) (by_it script) lock state [] held false
            ≡ record { found = first_wanted (left_of_seizing script (left same state.seen script) lock held); state = state; words = [] }
        at false later = refl
        at true later = later

module _ {Lock : Type 0} (same : Lock → Lock → Bool) (self : (lock : Lock) → same lock lock ≡ true) (lock_word : Lock → ℕ) (reads seizes : ℕ) where
  pub live_none : {A : Type 0} (script : Script Lock A) (state : WalkState Lock)
      → walk_on_words same lock_word reads seizes (λ word value. value) script state []
      ≡ record { found = walk same state.seen script; state = state; words = [] }
  live_none script state = walk_none same lock_word reads seizes script state

  -- what was held and read still is, for a resume point that stays valid with more
  pub live_extends : {A : Type 0} (script : Script Lock A) (state : WalkState Lock) (words : List ℕ)
      → Extends same state.seen (walk_on_words same lock_word reads seizes (λ word value. value) script state words).state.seen
  live_extends script state words =
      let grows = live_grows same self lock_word reads seizes script state words in
      record { held = λ lock held. grows.held lock held; readings = λ word value read. grows.readings word value read }
