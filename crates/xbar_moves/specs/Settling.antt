use Rattle.std.specs.Prelude.{ℕ, zero, suc, ◌+◌, ◌*◌, is_some, length, slice_get, if◌then◌else◌}
use Rattle.turns.specs.Attempt.{turn_in}
use Rattle.xbar_plan.specs.Tables.{Tables}
use Rattle.xbar_jobs.specs.Standing.{most_effects, most_held, most_readings, most_seizings}
use Rattle.xbar_moves.specs.Exchange.{Exchange, at_marker, on_job}
use Rattle.xbar_moves.specs.Moves.{given_back, steps}

-- the most steps to the end of its job of a marker with no other in its way: two to withdraw and
-- to try again, the frees, and those of the job anew
abbrev pub most_steps_alone : ℕ
most_steps_alone = 2 + most_held + (3 * most_seizings + most_readings + most_effects + 1)

-- the office once marker k is brought to the end of its job
abbrev pub ended : Tables → ℕ → Exchange → Exchange
ended plan k e = steps plan k most_steps_alone e

-- the same if marker k is past its turn; else nothing changes
abbrev pub ended_past_turn : Tables → ℕ → Exchange → Exchange
ended_past_turn plan k e =
    at_marker e (λ m. on_job e (λ number a.
    if is_some (turn_in a.phase) then ended plan k e else e) m.work)
    (slice_get e.markers k)

-- a change for each marker below a number, in the order of their numbers
unfoldable pub for_each : (ℕ → Exchange → Exchange) → ℕ → Exchange → Exchange
for_each change zero e = e
for_each change (suc k) e = change k (for_each change k e)

-- an office that has settled: in the order of their numbers the markers past their turn came to
-- their end, then all others gave back, then each came to its end
abbrev pub settled : Tables → Exchange → Exchange
settled plan e =
    let count = length e.markers in
    for_each (ended plan) count
    (for_each (given_back plan) count (for_each (ended_past_turn plan) count e))
