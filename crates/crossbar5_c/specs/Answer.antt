-- What a call is answered, and what the caller is given of it.
use Rattle.std.specs.Prelude.{◌≡◌, ◌++◌, [], ℕ, List, None, Some, drop, if◌then◌else◌, length, nat_le, slice_get}
use Rattle.xbar_moves.specs.declared.kinds.Kind.{Kind}
use Rattle.xbar_plan_text.specs.Document.{plan_of}
use Rattle.crossbar5_task.specs.Tasks.{tasks}
use Rattle.crossbar5_task.specs.declared.task.Task.{Task}
use Rattle.crossbar5.specs.Kinds.{NamesFor, RefusesLetters}
use Rattle.crossbar5.specs.Statuses.{status_number}
use Rattle.crossbar5.specs.Tasks.{IsDone}
use Rattle.crossbar5.specs.declared.written.Status.{Status}
use Rattle.crossbar5_c.specs.declared.status.TheConstants.{MARKERS_REFUSED, NO_SUCH_TASK, OUT_OF_MEMORY}

-- the answer to a call for the task of this number: a text, with a status
pub data IsAnswer (number : ℕ) (letters plan input text : List ℕ) (status : ℕ) : Type 0 where
  -- the task's text, with the task's status
  Does : (task : Task) (kinds : List Kind) (ended : Status) → slice_get tasks number ≡ Some task
      → NamesFor task letters kinds → IsDone task kinds (plan_of plan) input text ended
      → status ≡ status_number ended → IsAnswer number letters plan input text status
  -- no task has the number
  KnowsNoTask : slice_get tasks number ≡ None → text ≡ [] → status ≡ NO_SUCH_TASK
      → IsAnswer number letters plan input text status
  -- the task has markers, and the letters are refused
  RefusesMarkers : (task : Task) → slice_get tasks number ≡ Some task
      → RefusesLetters task letters → text ≡ [] → status ≡ MARKERS_REFUSED
      → IsAnswer number letters plan input text status
  -- memory ran out, and nothing is refused before
  LacksMemory : (task : Task) → slice_get tasks number ≡ Some task
      → ¬ RefusesLetters task letters → text ≡ [] → status ≡ OUT_OF_MEMORY
      → IsAnswer number letters plan input text status

-- what a place holds once a text was written to its beginning, if there is room for all of it
abbrev pub written : List ℕ → List ℕ → List ℕ
written text out =
    if nat_le (length text) (length out) then text ++ drop (length text) out else out

-- the caller is given a text: its length, and the text itself if there is room for it
pub record IsGiven (text : List ℕ) (told : ℕ) (before after : List ℕ) : Type 0 where
  pub length_is : told ≡ length text
  pub out_is : after ≡ written text before
