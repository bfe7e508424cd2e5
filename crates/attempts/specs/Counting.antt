use Rattle.std.specs.Prelude.{ℕ, ◌+◌, ◌-◌, ◌^◌, ◌==◌, Bool, false, List, [], ◌∷◌, length, if◌then◌else◌, min}
use Rattle.turns.specs.Attempt.{Attempt, begin, change}
use Rattle.turns.specs.System.{System}
use Rattle.turns.specs.declared.answer.Answer.{Answer}
use Rattle.turns.specs.declared.phase.Phase.{Phase}
use Rattle.turns.specs.declared.phase.Phase.TheVariants.{Requests}

-- the count after one more step, as far as 32 bits count
abbrev pub counted : ℕ → ℕ
counted count = if count == 2 ^ 32 - 1 then count else count + 1

-- the count after `made` more steps, as far as 32 bits count
abbrev pub counted_by : ℕ → ℕ → ℕ
counted_by made count = min (count + made) (2 ^ 32 - 1)

-- the attempt is at its beginning: it requests a lock next, and holds none
abbrev pub is_at_beginning : {Lock : Type 0} → Phase Lock ℕ → List Lock → Bool
is_at_beginning (Requests lock) held = length held == 0
is_at_beginning phase held = false

-- the count in a phase: 0 at the beginning of an attempt
abbrev pub count_in : {Lock : Type 0} → Phase Lock ℕ → List Lock → ℕ → ℕ
count_in phase held count = if is_at_beginning phase held then 0 else count

-- an attempt with the number of its steps so far
pub record Counted (Lock Job Reply Effect : Type 0) : Type 0 where
  pub attempt : Attempt Lock Job Reply Effect
  pub count : ℕ

-- an attempt with this count, or with 0 if it is at its beginning
abbrev pub with_count : {Lock Job Reply Effect : Type 0} → ℕ → Attempt Lock Job Reply Effect
    → Counted Lock Job Reply Effect
with_count count a = record { attempt = a; count = count_in a.phase a.held count }

module _ (O : System) where
  abbrev pub CountedOf : Type 0
  CountedOf = Counted O.Lock O.Job O.Reply O.Effect

  -- an attempt that has made no step
  abbrev pub fresh : O.Job → CountedOf
  fresh job = record { attempt = begin O job; count = 0 }

  -- the attempt after an answer to its next step
  abbrev pub after_answer : CountedOf → Answer → CountedOf
  after_answer p answer = with_count (counted p.count) (change O p.attempt answer)

  -- the attempt after answers one after another, each to the step that is next then
  abbrev pub after_answers : CountedOf → List Answer → CountedOf
  after_answers p [] = p
  after_answers p (answer ∷ answers) = after_answers (after_answer p answer) answers
