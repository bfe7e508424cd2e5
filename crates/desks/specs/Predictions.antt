-- predictions: words that an attempt tests next, each with the value that it expects there
use Rattle.std.specs.Prelude.{◌≡◌, ◌<◌, ℕ, suc, List, [], ◌∷◌, Option, Some, None, ⊤, take}
use Rattle.turns.specs.Attempt.{AttemptOf, change}
use Rattle.turns.specs.System.{System}
use Rattle.turns.specs.declared.answer.Answer.TheVariants.{Value}
use Rattle.turns.specs.declared.phase.Phase.TheVariants.{Tests}
use Rattle.turns.specs.declared.reading.Reading.{Reading}

-- the number of tests made: of the right predictions, and of the wrong one if there was one
abbrev pub tests_made : ℕ → Option ℕ → ℕ
tests_made made None = made
tests_made made (Some found) = suc made

module _ (O : System) where
  -- an attempt after these readings, one after another
  abbrev pub read_on : AttemptOf O → List (Reading ℕ) → AttemptOf O
  read_on a [] = a
  read_on a (reading ∷ rest) = read_on (change O a (Value reading.value)) rest

  -- an attempt tests these words next, in this order, as long as each has the value predicted
  abbrev pub TestsNext : AttemptOf O → List (Reading ℕ) → Type 0
  TestsNext a [] = ⊤
  TestsNext a (reading ∷ rest) =
      (a.phase ≡ Tests reading.word) × (reading.word < O.size)
      × TestsNext (change O a (Value reading.value)) rest

  -- an attempt after its first `made` predictions, which were right
  abbrev pub confirmed : AttemptOf O → List (Reading ℕ) → ℕ → AttemptOf O
  confirmed a predictions made = read_on a (take made predictions)

  -- an attempt after the test of a word that was predicted wrongly, if there was one
  abbrev pub corrected : AttemptOf O → Option ℕ → AttemptOf O
  corrected a None = a
  corrected a (Some found) = change O a (Value found)
