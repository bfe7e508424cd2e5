-- a walk that makes steps of its own ends where it can make no more
use Rattle.std.proofs.Common.{◌≡◌, ℕ, zero, suc, ◌-◌, ◌<◌, ◌⊎◌, inl, inr, Bool, true, false, List, length, refl, subst, slice_set, arith, Option, Some, None}
use Rattle.std.proofs.Common.{Result, Ok, Err, slice_get}
use Rattle.{std.specs.Prelude.⊤, turns.specs.Script.{Script, Ends, TestThen, SeizeThen, is_held, value_read}}
use Rattle.turns.specs.declared.{phase.Phase.TheVariants.{Requests, Tests}, wanted.Wanted.{Wanted, TheVariants.{Seize, Test}}}
use Rattle.attempts.specs.WalkOnWords.{WalkState, WalkOutcome, is_unlocked, walk_on_words, walk_on_words_seize, walk_on_words_test, may_seize, read_at_once}
use Rattle.attempts.specs.{WalkOnWords.{with_lock, with_reading}, Running.CanRunNoFurther}

-- if a lock can't be seized at once though there is room for it, then it isn't free, or too few
-- steps are left
not_seized : (left room : ℕ) (word : Option ℕ) → 0 < room → may_seize left room word ≡ false → (left < 2) ⊎ (is_unlocked word ≡ false)
not_seized zero room word some none = inl (omega arith)
not_seized (suc zero) room word some none = inl (omega arith)
not_seized (suc (suc left)) zero word some none = absurd (omega (arith, some))
not_seized (suc (suc left)) (suc room) word some none = inr none

not_read : (left room : ℕ) (words : List ℕ) (word : ℕ) → 0 < room → read_at_once left room words word ≡ None → (left ≡ 0) ⊎ (slice_get words word ≡ None)
not_read zero room words word some none = inl refl
not_read (suc left) zero words word some none = absurd (omega (arith, some))
not_read (suc left) (suc room) words word some none = inr none

module _ {Lock : Type 0} (same : Lock → Lock → Bool) (lock_word : Lock → ℕ) (reads seizes : ℕ) where
  abbrev plain : {A : Type 0} → Script Lock A → WalkState Lock → List ℕ → WalkOutcome Lock A
  plain = walk_on_words same lock_word reads seizes (λ word value. value)

  -- what the walk needs next can't be acquired at once
  abbrev Lacks : {A : Type 0} → WalkState Lock → List ℕ → Result A (Wanted Lock ℕ) → Type 0
  Lacks state words (Ok found) = ⊤
  Lacks state words (Err (Seize lock)) = may_seize state.left (seizes - length state.seen.held) (slice_get words (lock_word lock)) ≡ false
  Lacks state words (Err (Test word)) = read_at_once state.left (reads - length state.seen.readings) words word ≡ None

  abbrev pub Stuck : {A : Type 0} → WalkOutcome Lock A → Type 0
  Stuck comes = Lacks comes.state comes.words comes.found

  pub live_stuck : {A : Type 0} (script : Script Lock A) (state : WalkState Lock) (words : List ℕ) → Stuck (plain script state words)
  unfolding walk_on_words walk_on_words_test walk_on_words_seize
  live_stuck (Ends found) state words = tt
  live_stuck {A} (TestThen word script) state words =
      at (value_read state.seen.readings word) (read_at_once state.left (reads - length state.seen.readings) words word) refl
      (λ value more. live_stuck (script value) more words) where
        at : (read now : Option ℕ) → read_at_once state.left (reads - length state.seen.readings) words word ≡ now
            → ((value : ℕ) (more : WalkState Lock) → Stuck (plain (script value) more words))
            → Stuck (walk_on_words_test same lock_word reads seizes (λ word value. value) (λ value. plain (script value)) word state words read now)
        at (Some value) now is later = later value state
        at None (Some value) is later = later value (with_reading state word value)
        at None None is later = is
  live_stuck {A} (SeizeThen lock script) state words =
      at (is_held same state.seen.held lock) (may_seize state.left (seizes - length state.seen.held) (slice_get words (lock_word lock))) refl
      (λ more after. live_stuck script more after) where
        at : (held now : Bool) → may_seize state.left (seizes - length state.seen.held) (slice_get words (lock_word lock)) ≡ now
            → ((more : WalkState Lock) (after : List ℕ) → Stuck (plain script more after))
            → Stuck (walk_on_words_seize same lock_word reads seizes (λ word value. value) (plain script) lock state words held now)
        at true now is later = later state words
        at false true is later = later (with_lock state lock) (slice_set words (lock_word lock) state.held_word)
        at false false is later = is

  -- so with room for what it needs, the walk can go no further
  pub no_further : {A : Type 0} (comes : WalkOutcome Lock A) (lock : Lock) → comes.found ≡ Err (Seize lock) → length comes.state.seen.held < seizes
      → Stuck comes → CanRunNoFurther lock_word comes.words comes.state.left (Requests lock)
  no_further comes lock wants room stuck =
      not_seized comes.state.left (seizes - length comes.state.seen.held) (slice_get comes.words (lock_word lock)) (omega (arith, room))
      (subst (Lacks comes.state comes.words) wants stuck)

  pub no_reading : {A : Type 0} (comes : WalkOutcome Lock A) (word : ℕ) → comes.found ≡ Err (Test word) → length comes.state.seen.readings < reads → Stuck comes
      → CanRunNoFurther lock_word comes.words comes.state.left (Tests word)
  no_reading comes word wants room stuck =
      not_read comes.state.left (reads - length comes.state.seen.readings) comes.words word (omega (arith, room))
      (subst (Lacks comes.state comes.words) wants stuck)
