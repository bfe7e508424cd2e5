-- whatever moves are made, the records before them begin the records after them
use Rattle.std.proofs.Common.{◌≡◌, ℕ, List, [], ◌∷◌, ◌++◌, append_assoc, append-nil, inl, inr, refl, sym, ◌∙◌, ap, subst, Option, Some, None, slice_get}
use Rattle.{xbar_plan.specs.Tables.Tables, xbar_office.specs.declared.{job.Job.Job, reply.Record.Record}}
use Rattle.xbar_moves.specs.{AtWork.answer_to_step, Exchange.{Exchange, Marker}, Moves.{assigned, added_record, refusal, after_step}, Runs.{Assigns, Restarts}}
use Rattle.xbar_moves.specs.{Runs.{GivesBack, Move, Settles, Steps, after_move, run_from, unless_refused}, declared.kinds.AssignFault.AssignFault}
use Rattle.xbar_moves.proofs.{GivenBack.records_stay, Keeping.{KeepsRestarts, KeepsSteps, restarts_keep, settled_keeps}, StepCases.step_cases}

-- these records begin those of an office
abbrev pub Begin : List Record → Exchange → Type 0
Begin first e = (later : List Record) × (e.records ≡ first ++ later)

begin_own : (e : Exchange) → Begin e.records e
begin_own e = ([], sym (append-nil e.records))

-- no record is added by a job that is assigned
assigned_adds : (e : Exchange) (k number : ℕ) (job : Job) (found : Option Marker) → slice_get e.markers k ≡ found
    → (assigned k number job e).records ≡ e.records
assigned_adds e k number job None there = rw there refl
assigned_adds e k number job (Some m) there = rw there refl

module _ (plan : Tables) (first : List Record) where
  more_begin : (e : Exchange) (more : List Record) (next : Exchange) → next.records ≡ e.records ++ more → Begin first e → Begin first next
  more_begin e more next adds (later, is) =
      (later ++ more, adds ∙ ap (λ (records : List Record). records ++ more) is ∙ append_assoc first later more)

  step_begins : (k : ℕ) → KeepsSteps plan (Begin first) k
  step_begins k e begins = elim (step_cases plan e k) [
    | inl same ↦ subst (Begin first) (sym same) begins
    | inr made ↦ more_begin e (added_record k made.number made.attempt (answer_to_step k e.words made.attempt)) (after_step plan k e)
        (ap (λ (x : Exchange). x.records) made.is) begins
  ]

  restart_begins : (k : ℕ) → KeepsRestarts plan (Begin first) k
  restart_begins k e number a begins at = begins

module _ (plan : Tables) where
  -- by whatever move
  pub move_begins : (e : Exchange) (move : Move) → Begin e.records (after_move plan e move)
  move_begins e (Assigns k number job) = by (refusal e k job) where
    by : (why : Option AssignFault) → Begin e.records (unless_refused why (assigned k number job e) e)
    by None = ([], assigned_adds e k number job (slice_get e.markers k) refl ∙ sym (append-nil e.records))
    by (Some fault) = begin_own e
  move_begins e (Steps k) = step_begins plan e.records k e (begin_own e)
  move_begins e (Restarts k) = restarts_keep plan (Begin e.records) k (restart_begins plan e.records k) e (begin_own e)
  move_begins e (GivesBack k) = ([], records_stay plan e k ∙ sym (append-nil e.records))
  move_begins e Settles = settled_keeps plan (Begin e.records) (step_begins plan e.records) (restart_begins plan e.records) e (begin_own e)

  -- and by moves one after another
  pub run_begins : (e : Exchange) (moves : List Move) → Begin e.records (run_from plan e moves)
  run_begins e [] = begin_own e
  run_begins e (move ∷ moves) =
      let one = move_begins e move in
      let rest = run_begins (after_move plan e move) moves in
      (one.0 ++ rest.0, rest.1 ∙ ap (λ (records : List Record). records ++ rest.0) one.1 ∙ append_assoc e.records one.0 rest.0)
