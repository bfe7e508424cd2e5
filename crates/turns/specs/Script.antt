use Rattle.std.specs.Prelude.{ℕ, zero, suc, ◌<◌, ◌^◌, ◌==◌, Bool, true, false, Option, Some, None, List, Result, Ok, Err, ⊤, find, option_map, slice_index}
use Rattle.std.specs.List.{list_any}
use Rattle.turns.specs.Seen.{Seen}
use Rattle.turns.specs.declared.reading.Reading.{Reading}
use Rattle.turns.specs.declared.wanted.Wanted.{Wanted}
use Rattle.turns.specs.declared.wanted.Wanted.TheVariants.{Seize, Test}

infixl 20 ◌>>=◌
infixl 20 ◌>>◌
-- a job as a decision tree: a script ends with what it found, or tests a word and goes on by its
-- value, or seizes a lock and goes on
pub data Script (Lock A : Type 0) : Type 0 where
  Ends : A → Script Lock A
  TestThen : ℕ → (ℕ → Script Lock A) → Script Lock A
  SeizeThen : Lock → Script Lock A → Script Lock A

-- one script and then another, which goes on with what the first one found
unfoldable pub ◌>>=◌ : {Lock A B : Type 0} → Script Lock A → (A → Script Lock B) → Script Lock B
Ends found >>= next = next found
TestThen word script >>= next = TestThen word (λ value. script value >>= next)
SeizeThen lock script >>= next = SeizeThen lock (script >>= next)

-- one script and then another
abbrev pub ◌>>◌ : {Lock A B : Type 0} → Script Lock A → Script Lock B → Script Lock B
script >> next = script >>= (λ _. next)

-- test a word, and find its value
abbrev pub test : {Lock : Type 0} → ℕ → Script Lock ℕ
test word = TestThen word Ends

-- seize a lock
abbrev pub seize : {Lock : Type 0} → Lock → Script Lock ⊤
seize lock = SeizeThen lock (Ends tt)

-- the script that takes each word's value through `change`
unfoldable pub read_with : {Lock A : Type 0} → (ℕ → ℕ → ℕ) → Script Lock A → Script Lock A
read_with change (Ends found) = Ends found
read_with change (TestThen word script) =
    TestThen word (λ value. read_with change (script (change word value)))
read_with change (SeizeThen lock script) = SeizeThen lock (read_with change script)

-- what a script ends with on given words, if all locks are free
unfoldable pub run : {Lock A : Type 0} → List ℕ → Script Lock A → A
run words (Ends found) = found
run words (TestThen word script) = run words (script (slice_index words word))
run words (SeizeThen lock script) = run words script

-- whether a lock is held; `same` tells whether two locks are one
unfoldable pub is_held : {Lock : Type 0} → (Lock → Lock → Bool) → List Lock → Lock → Bool
is_held same held lock = list_any (λ own. same own lock) held

-- the value read in a word, if it was read: that of its first reading
unfoldable pub value_read : List (Reading ℕ) → ℕ → Option ℕ
value_read readings word =
    option_map (λ reading. reading.value) (find (λ reading. reading.word == word) readings)

-- a test is left to do if its word was not read
unfoldable pub left_of_test : {Lock A : Type 0} → (ℕ → Script Lock A) → (ℕ → Script Lock A) → ℕ
    → Option ℕ → Script Lock A
left_of_test script left word None = TestThen word script
left_of_test script left word (Some value) = left value

-- a seize is left to do if its lock is not held
unfoldable pub left_of_seizing : {Lock A : Type 0} → Script Lock A → Script Lock A → Lock → Bool
    → Script Lock A
left_of_seizing script left lock false = SeizeThen lock script
left_of_seizing script left lock true = left

-- what is left of a script for an attempt: it doesn't seize a lock again that it holds, nor test a
-- word again that it has read
unfoldable pub left : {Lock A : Type 0} → (Lock → Lock → Bool) → Seen Lock → Script Lock A
    → Script Lock A
left same seen (Ends found) = Ends found
left same seen (TestThen word script) =
    left_of_test script (λ value. left same seen (script value)) word
    (value_read seen.readings word)
left same seen (SeizeThen lock script) =
    left_of_seizing script (left same seen script) lock (is_held same seen.held lock)

-- what a script ends with, or the first thing that it needs
unfoldable pub first_wanted : {Lock A : Type 0} → Script Lock A → Result A (Wanted Lock ℕ)
first_wanted (Ends found) = Ok found
first_wanted (TestThen word script) = Err (Test word)
first_wanted (SeizeThen lock script) = Err (Seize lock)

-- the walk of an attempt through a script: to the script's end, or to what the attempt needs next
unfoldable pub walk : {Lock A : Type 0} → (Lock → Lock → Bool) → Seen Lock → Script Lock A
    → Result A (Wanted Lock ℕ)
walk same seen script = first_wanted (left same seen script)

-- the script has at most `tests` tests and `seizings` seizes, whatever values of 64 bits it reads
unfoldable pub AsksAtMost : {Lock A : Type 0} → ℕ → ℕ → Script Lock A → Type 0
AsksAtMost tests seizings (Ends found) = ⊤
AsksAtMost zero seizings (TestThen word script) = ⊥
AsksAtMost (suc tests) seizings (TestThen word script) =
    (value : ℕ) → value < 2 ^ 64 → AsksAtMost tests seizings (script value)
AsksAtMost tests zero (SeizeThen lock script) = ⊥
AsksAtMost tests (suc seizings) (SeizeThen lock script) = AsksAtMost tests seizings script
