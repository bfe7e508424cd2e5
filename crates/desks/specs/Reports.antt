-- the records that desks report of their jobs
use Rattle.std.specs.Prelude.{◌≡◌, ◌≤◌, ◌<◌, ◌^◌, ℕ, Bool, true, false, List, [], ◌∷◌, ◌++◌, length, Option, Some, None, option_map, option_to_list, IfSome, slice_get}
use Rattle.turns.specs.Among.{IsIn}
use Rattle.turns.specs.Runs.{is_available}
use Rattle.turns.specs.Clock.{IsCounted}
use Rattle.turns.specs.System.{System}
use Rattle.turns.specs.World.{ActorOf, Does, Idle, RecordOf}
use Rattle.desks.specs.declared.progress.Progress.{Progress}
use Rattle.desks.specs.declared.progress.Progress.TheVariants as progress
use Rattle.desks.specs.Desks.{job_record_of, as_record}
use Rattle.desks.specs.Parts.{Begins, own}
use Rattle.desks.specs.Views.{DeskView}

module _ (O : System) where
  -- the job that an actor was assigned last, with its number
  abbrev pub job_of : ActorOf O → Option (ℕ × O.Job)
  job_of Idle = None
  job_of (Does number a) = Some (number, a.job)

  -- the record of actor k's job, once the job is past its turn; otherwise none
  abbrev pub record_past_turn : ℕ → ActorOf O → List (RecordOf O)
  record_past_turn k m = option_to_list (option_map as_record (job_record_of O k m))

  -- the record of actor k's job while it is unreported: true says that the job has ended
  abbrev pub unreported_if : Bool → ℕ → ActorOf O → List (RecordOf O)
  unreported_if true k m = []
  unreported_if false k m = record_past_turn k m

  -- the record of actor k's job from the turn to the job's end: it is still to be reported
  abbrev pub unreported : ℕ → ActorOf O → List (RecordOf O)
  unreported k m = unreported_if (is_available O m) k m

  -- the record of actor k's job once it is reported: true says that the job has ended
  abbrev pub ended_if : Bool → ℕ → ActorOf O → List (RecordOf O)
  ended_if true k m = record_past_turn k m
  ended_if false k m = []

  -- the record of actor k's job, if the job has ended
  abbrev pub ended : ℕ → ActorOf O → List (RecordOf O)
  ended k m = ended_if (is_available O m) k m

  -- the record that an advance reports, if any
  abbrev pub reported_by : Progress O.Job O.Reply → List (RecordOf O)
  reported_by progress.Idle = []
  reported_by (progress.Moved answer) = []
  reported_by (progress.Finished reported) = as_record reported ∷ []

  -- actor k worked for a while and reported these records. What it has now seen begins with what
  -- it had seen before. If a log had all of its own records but the unreported one, then the log
  -- with these records has all of them but the one that is unreported now.
  pub record HasWorked (k : ℕ) (before after : ActorOf O)
      (seen seen_after reported : List (RecordOf O))
      : Type 0 where
    pub begins : Begins seen seen_after
    pub own_is : (log : List (RecordOf O)) → own k seen ≡ log ++ unreported k before
        → own k seen_after ≡ log ++ (reported ++ unreported k after)

  -- a record comes after all that had been seen: it is later in the order, and its turn has a
  -- greater number, if turns are counted and a word can count them
  pub record ComesAfter (seen seen_after : List (RecordOf O)) (r : RecordOf O) : Type 0 where
    pub later : List (RecordOf O)
    pub after_is : seen_after ≡ seen ++ later
    pub within : IsIn r later
    pub turn : IsCounted O.clock → length seen_after ≤ 2 ^ 64 → length seen ≤ r.turn

  -- logs, one for each actor of a room, make up an order: each log is its actor's own records of
  -- the order, and the order has no other records
  pub record MakeUp (logs : List (List (RecordOf O))) (order : List (RecordOf O)) : Type 0 where
    pub theirs : (r : RecordOf O) → IsIn r order → r.actor < length logs
    pub each : (i : ℕ) → IfSome (slice_get logs i) (λ log. own i order ≡ log)

  -- desks, each at the index of its number, and for each a log of all that it has reported
  pub record HaveLogs {Setting : Type 0}
      (desks : List (DeskView Setting O.Lock O.Job O.Reply O.Effect))
      (logs : List (List (RecordOf O)))
      : Type 0 where
    pub count : length logs ≡ length desks
    pub each : (i : ℕ) → IfSome (slice_get desks i) (λ d. IfSome (slice_get logs i)
        (λ log. own i d.seen ≡ log ++ unreported i d.actor))
