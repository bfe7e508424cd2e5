use Rattle.std.specs.Prelude.{◌≡◌, ℕ, Bool, true, false, Option, Some, None, is_some, List, [], ⊤}
use Rattle.turns.specs.Attempt.{turn_in}
use Rattle.turns.specs.declared.answer.Answer.{Answer}
use Rattle.turns.specs.declared.phase.Phase.TheVariants.{Requests, Seizes, Tests, Turns, Withdraws, GivesBack, Operates}
use Rattle.xbar_equip.specs.declared.conn.Conn.{Conn}
use Rattle.xbar_jobs.specs.Attempt.{Attempt, Phase, next_step}
use Rattle.xbar_jobs.specs.OnWords.{answer_of}
use Rattle.xbar_jobs.specs.declared.program.Step.{Step}
use Rattle.xbar_jobs.specs.declared.program.Step.TheVariants as step
use Rattle.xbar_moves.specs.Exchange.{Marker, Work, at_marker, on_job}

-- the answer to the next step of marker k's attempt
abbrev pub answer_to_step : ℕ → List ℕ → Attempt → Answer
answer_to_step k words a = answer_of k (next_step a) words

-- the connector that a step requests or tries to seize
abbrev pub conn_asked : Step → Option Conn
conn_asked (step.Request conn) = Some conn
conn_asked (step.Seize conn expected) = Some conn
conn_asked (step.Withdraw conn) = None
conn_asked (step.Test word) = None
conn_asked step.Turn = None
conn_asked (step.Close word bits) = None
conn_asked (step.Open word mask) = None
conn_asked (step.Free conn) = None
conn_asked step.Finished = None

-- whether a marker's job has taken its turn
abbrev pub is_turned : Work → Bool
is_turned work = on_job false (λ number a. is_some (turn_in a.phase)) work

-- a marker's next step; Finished if it has no job, or nothing is left of it
abbrev pub next_step_at : Work → Step
next_step_at work = on_job step.Finished (λ number a. next_step a) work

-- an attempt on its way back to its job's beginning: it withdraws its request, frees a connector,
-- or is there already
abbrev pub IsBackingIn : Attempt → Phase → Type 0
IsBackingIn a (Withdraws conn) = ⊤
IsBackingIn a GivesBack = ¬ (a.held ≡ [])
IsBackingIn a (Requests conn) = a.held ≡ []
IsBackingIn a (Seizes conn expected) = ⊥
IsBackingIn a (Tests word) = ⊥
IsBackingIn a Turns = ⊥
IsBackingIn a (Operates turn) = ⊥

-- a marker with this work is on its way back to its job's beginning
abbrev pub IsBackingBy : Work → Type 0
IsBackingBy work = on_job ⊥ (λ number a. IsBackingIn a a.phase) work

-- there is a marker, and it is on its way back to its job's beginning
abbrev pub IsBackingAt : Option Marker → Type 0
IsBackingAt found = at_marker ⊥ (λ m. IsBackingBy m.work) found
