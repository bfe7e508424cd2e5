use Rattle.std.specs.Prelude.{ℕ, ◌-◌, ◌^◌, ◌==◌, List, bit_or, slice_index, slice_set, if◌then◌else◌}
use Rattle.turns.specs.Attempt.{unless_denied}
use Rattle.turns.specs.Operations.{applied}
use Rattle.turns.specs.Sharings.{judged, request_bit, seized_by}
use Rattle.turns.specs.declared.answer.Answer.{Answer}
use Rattle.turns.specs.declared.answer.Answer.TheVariants.{Asked, Seized, Again, Value, Turn as TurnNumber, Done}
use Rattle.xbar_equip.specs.Word.{ConnWord, TurnWord, word_number}
use Rattle.turns.specs.declared.operation.Operation.{Operation}
use Rattle.turns.specs.declared.operation.Operation.TheVariants.{Load, Or, And, Add, CompareExchange}
use Rattle.xbar_jobs.specs.declared.program.Step.{Step}
use Rattle.xbar_jobs.specs.declared.program.Step.TheVariants.{Request, Seize, Withdraw, Test, Turn, Close, Open, Free, Finished}

-- the word that a step is made on
abbrev pub step_word : Step → ℕ
step_word (Request conn) = word_number (ConnWord conn)
step_word (Seize conn expected) = word_number (ConnWord conn)
step_word (Withdraw conn) = word_number (ConnWord conn)
step_word (Test word) = word
step_word Turn = word_number TurnWord
step_word (Close word bits) = word
step_word (Open word mask) = word
step_word (Free conn) = word_number (ConnWord conn)
step_word Finished = word_number TurnWord

-- the atomic operation that makes a marker's step on its word
abbrev pub operation : ℕ → Step → Operation
operation marker (Request conn) = Or (request_bit marker)
operation marker (Seize conn expected) = CompareExchange expected (seized_by marker expected)
operation marker (Withdraw conn) = And (2 ^ 64 - 1 - request_bit marker)
operation marker (Test word) = Load
operation marker Turn = Add 1
operation marker (Close word bits) = Or bits
operation marker (Open word mask) = And mask
operation marker (Free conn) = And (2 ^ 64 - 1 - 63)
operation marker Finished = Load

-- the answer to the marker's step, which found this value in its word
abbrev pub step_answer : ℕ → Step → ℕ → Answer
step_answer marker (Request conn) found =
    unless_denied (Asked (bit_or found (request_bit marker)))
    (judged marker (bit_or found (request_bit marker)))
step_answer marker (Seize conn expected) found =
    if found == expected then Seized else unless_denied (Again found) (judged marker found)
step_answer marker (Withdraw conn) found = Done
step_answer marker (Test word) found = Value found
step_answer marker Turn found = TurnNumber found
step_answer marker (Close word bits) found = Done
step_answer marker (Open word mask) found = Done
step_answer marker (Free conn) found = Done
step_answer marker Finished found = Done

-- the words after a marker's step
abbrev pub words_after : ℕ → Step → List ℕ → List ℕ
words_after marker step words =
    slice_set words (step_word step)
    (applied (operation marker step) (slice_index words (step_word step)))

-- the answer to the marker's step on these words
abbrev pub answer_of : ℕ → Step → List ℕ → Answer
answer_of marker step words = step_answer marker step (slice_index words (step_word step))
