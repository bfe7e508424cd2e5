use Rattle.std.specs.Prelude.{ℕ}
use Rattle.turns.specs.Attempt.{answer_to_request, answer_to_seize}
use Rattle.turns.specs.Sharing.{Sharing}
use Rattle.turns.specs.declared.answer.Answer.{Answer}
use Rattle.turns.specs.declared.answer.Answer.TheVariants as answer
use Rattle.turns.specs.declared.phase.Phase.{Phase}
use Rattle.turns.specs.declared.phase.Phase.TheVariants.{Requests, Seizes, Tests, Turns}

-- the answer to actor k's next step in this phase, which found this number in its word
abbrev pub answer_in : {Lock : Type 0} → Sharing → Phase Lock ℕ → ℕ → ℕ → Answer
answer_in sharing (Requests lock) k found = answer_to_request sharing k found
answer_in sharing (Seizes lock expected) k found = answer_to_seize sharing k expected found
answer_in sharing (Tests word) k found = answer.Value found
answer_in sharing Turns k found = answer.Turn found
answer_in sharing phase k found = answer.Done
