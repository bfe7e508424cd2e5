use Rattle.std.specs.Prelude.{ℕ, zero, suc, Bool, true, false, List, [], ◌∷◌, ◌++◌, drop, length, slice_get, if◌then◌else◌}
use Rattle.xbar_plan.specs.Tables.{Tables}
use Rattle.xbar_office.specs.declared.reply.Record.{Record}
use Rattle.xbar_jobs.specs.declared.program.Step.{Step}
use Rattle.xbar_jobs.specs.declared.program.Step.TheVariants as step
use Rattle.xbar_moves.specs.AtWork.{is_turned, next_step_at}
use Rattle.xbar_moves.specs.Exchange.{Exchange, OfPlan, at_marker, is_idle}
use Rattle.xbar_moves.specs.Moves.{restarted_at, event_at_step, frees_left, given_at, after_step}
use Rattle.xbar_moves.specs.Settling.{most_steps_alone}
use Rattle.xbar_moves.specs.declared.event.Given.{Given}
use Rattle.xbar_moves.specs.declared.event.Given.TheVariants as given
use Rattle.xbar_walk.specs.Items.{Item, settling_item, step_item}
use Rattle.xbar_step_text.specs.Lines.{one_more}
use Rattle.xbar_step_text.specs.Observed.{found_by}
use Rattle.xbar_step_text.specs.declared.observation.Observation.{Observation}
use Rattle.xbar_walk.specs.declared.detail.Detail.{Detail}

-- the detail of a description, an office, the number of steps described so far, and all items so
-- far
pub record Walk : Type 0 where
  pub detail : Detail
  pub office : OfPlan
  pub number : ℕ
  pub items : List Item

-- marker k's next step
abbrev pub next_of : Exchange → ℕ → Step
next_of e k = at_marker step.Finished (λ m. next_step_at m.work) (slice_get e.markers k)

-- whether marker k is idle
abbrev pub is_idle_in : Exchange → ℕ → Bool
is_idle_in e k = at_marker true (λ m. is_idle m.work) (slice_get e.markers k)

-- what is observed of marker k's next step
abbrev pub observation_of : Tables → ℕ → Exchange → Observation
observation_of plan k e = record {
  step = next_of e k;
  found = found_by e.words (next_of e k);
  event = event_at_step plan k e;
  next = next_of (after_step plan k e) k;
}

-- the records that marker k's next step adds
abbrev pub added_by : Tables → ℕ → Exchange → List Record
added_by plan k e = drop (length e.records) (after_step plan k e).records

-- marker k makes its next step, and its item is added; an idle marker makes none and adds none
unfoldable pub walk_of_step : ℕ → Walk → Walk
walk_of_step k w =
    let plan = w.office.plan in
    let e = w.office.exchange in
    if is_idle_in e k then w
    else (record {
      detail = w.detail;
      office = record { plan = plan; exchange = after_step plan k e };
      number = one_more w.number;
      items =
          w.items ++ step_item w.detail (one_more w.number) k (observation_of plan k e)
          (added_by plan k e) ∷ [];
    })

-- marker k makes `count` steps
unfoldable pub walk_of_steps : ℕ → ℕ → Walk → Walk
walk_of_steps k zero w = w
walk_of_steps k (suc count) w = walk_of_steps k count (walk_of_step k w)

-- marker k makes enough steps to finish its job if no other marker is in its way
abbrev pub walk_of_end : ℕ → Walk → Walk
walk_of_end k w = walk_of_steps k most_steps_alone w

-- whether marker k is past its turn
abbrev pub is_past_turn_in : Exchange → ℕ → Bool
is_past_turn_in e k = at_marker false (λ m. is_turned m.work) (slice_get e.markers k)

-- marker k makes these steps if it is past its turn
abbrev pub walk_of_end_past_turn : ℕ → Walk → Walk
walk_of_end_past_turn k w = if is_past_turn_in w.office.exchange k then walk_of_end k w else w

-- marker k is to begin its job anew: this is no step
abbrev pub restarted_walk : ℕ → Walk → Walk
restarted_walk k w = record w {
  office = record w.office { exchange = restarted_at w.office.plan k w.office.exchange };
}

-- giving back, by marker k's answer: it gives back all that it holds, or is idle or past its turn
abbrev pub walk_of_rollback : Given → ℕ → Walk → Walk
walk_of_rollback given.Given k w = walk_of_steps k (frees_left w.office.exchange k)
    (restarted_walk k w)
walk_of_rollback given.PastTurn k w = w
walk_of_rollback given.Idle k w = w

-- marker k gives back all that it holds, unless it is idle or past its turn
unfoldable pub walk_of_give_back : ℕ → Walk → Walk
walk_of_give_back k w = walk_of_rollback (given_at w.office.exchange k) k w

-- a part of a walk, done by each of the first k markers, in the order of their numbers
unfoldable pub walk_for_each : (ℕ → Walk → Walk) → ℕ → Walk → Walk
walk_for_each part zero w = w
walk_for_each part (suc k) w = part k (walk_for_each part k w)

-- an office settles, with an item for each step
abbrev pub walk_of_settling : Walk → Walk
walk_of_settling w =
    let count = length w.office.exchange.markers in
    walk_for_each walk_of_end count
    (walk_for_each walk_of_give_back count
    (walk_for_each walk_of_end_past_turn count
    (record w { items = w.items ++ settling_item w.detail ∷ [] })))
