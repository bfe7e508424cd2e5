-- steps that a program makes on the words by itself
use Rattle.std.specs.Prelude.{◌≡◌, ◌≤◌, ◌⊎◌, ℕ, true, List, Option, Some, None, is_some, length}
use Rattle.turns.specs.Attempt.{act, turn_in}
use Rattle.turns.specs.Runs.{is_finished}
use Rattle.attempts.specs.Counting.{counted_by}
use Rattle.attempts.specs.WalkOnWords.{LeadsTo}
use Rattle.attempts.specs.Running.{RunsFarEnough}
use Rattle.xbar_equip.specs.Word.{word_count}
use Rattle.xbar_plan.specs.Tables.{Tables}
use Rattle.xbar_jobs.specs.Attempt.{Attempt, Counted}
use Rattle.xbar_jobs.specs.Office.{office}
use Rattle.xbar_jobs.specs.Standing.{IsValid}

-- `made` steps of the marker, at most `most` and none of them a turn, lead from the old program
-- and words to the new ones, and the attempt is valid again
pub record RunsOn (plan : Tables) (marker most made : ℕ) (old : Counted) (words : List ℕ)
    (new : Counted) (after : List ℕ) : Type 0 where
  pub fits : made ≤ most
  pub steps : LeadsTo (office plan) marker made (record { attempt = old.attempt; words = words })
      (record { attempt = new.attempt; words = after })
  pub count : new.count ≡ counted_by made old.count
  pub valid : IsValid plan new.attempt

-- past its turn an attempt makes all that is left, or `most` steps; before its turn it goes as far
-- as its walk can
abbrev pub GoesFar : Tables → ℕ → ℕ → List ℕ → Attempt → Attempt → Option ℕ → Type 0
GoesFar plan most made words old new (Some turn) = (made ≡ most) ⊎ (is_finished (act new) ≡ true)
GoesFar plan most made words old new None =
    RunsFarEnough (office plan).lock_word words most made old.phase new.phase

-- the same past the turn, where the attempt stays
pub record RunsOut (plan : Tables) (marker most made : ℕ) (old : Counted) (words : List ℕ)
    (new : Counted) (after : List ℕ) : Type 0 where
  pub runs : RunsOn plan marker most made old words new after
  pub turned : is_some (turn_in new.attempt.phase) ≡ true
  pub whole : length after ≡ word_count
