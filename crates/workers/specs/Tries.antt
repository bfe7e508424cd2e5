-- what comes of the tries at a job, with a policy that says between them whether to try again
use Rattle.std.specs.Prelude.{◌≡◌, ◌⊎◌, ◌+◌, ◌*◌, ◌%◌, ◌<◌, ◌≤◌, ◌^◌, ◌++◌, ℕ, zero, suc, Bool, true, false, List, [], ◌∷◌, Option, Some, None, Result, Ok, Err, nat_lt}
use Rattle.turns.specs.Attempt.{begin}
use Rattle.turns.specs.Runs.{is_available}
use Rattle.turns.specs.System.{System}
use Rattle.turns.specs.World.{ActorOf, Does, Idle}
use Rattle.turns.specs.declared.answer.Answer.{Answer}
use Rattle.turns.specs.declared.answer.Answer.TheVariants.{Held, Preferred}
use Rattle.desks.specs.Desks.{HasAdvanced, HasGivenBack, asked_by}
use Rattle.desks.specs.Met.{DeskOf}
use Rattle.desks.specs.declared.progress.JobRecord.{JobRecord}
use Rattle.desks.specs.declared.progress.Progress.{Progress}
use Rattle.desks.specs.declared.progress.Progress.TheVariants as progress
use Rattle.workers.specs.Workers.{HasFinished}

-- what the policy `Pausing` answers: to try again after fewer than 100,000,000 tries
abbrev pub AnswersPausing : ℕ → Option ℕ → Bool → Type 0
AnswersPausing made denied again = again ≡ nat_lt made 100000000

-- the patience that `Pausing` gives a desk of this number
abbrev pub PatiencePausing : ℕ → ℕ → Type 0
PatiencePausing desk patience = patience ≡ 30 + 7 * (desk % 8)

-- whether the answer denies a lock
abbrev pub denies : Answer → Bool
denies (Held holder) = true
denies (Preferred other) = true
denies answer = false

-- the record, if a try came to one
abbrev pub record_of : {A B : Type 0} → Result A B → Option A
record_of (Ok reported) = Some reported
record_of (Err denied) = None

module _ (O : System) where
  -- a record that a desk reports
  abbrev pub Reported : Type 0
  Reported = JobRecord O.Job O.Reply

  -- an advance of a desk came to this, and nothing else of the desk changed
  pub record HasCome {Setting : Type 0} (desk after : DeskOf O Setting)
      (came : Progress O.Job O.Reply)
      : Type 0 where
    pub same : after ≡ record desk { actor = after.actor; seen = after.seen }
    pub advanced : HasAdvanced O desk.number desk.actor after.actor desk.seen after.seen came

  -- a desk made this number of steps, one after another, and its job goes on
  abbrev pub HasGoneOn : {Setting : Type 0} → ℕ → DeskOf O Setting → DeskOf O Setting → Type 0
  HasGoneOn zero desk after = after ≡ desk
  HasGoneOn {Setting} (suc count) desk after =
      (between : DeskOf O Setting) × (answer : Answer) × HasGoneOn count desk between
      × HasCome between after (progress.Moved answer)

  -- a desk made up to `most` steps. Either its job ended, and this is the record; or it made `most`
  -- steps and its job goes on, or it was idle and nothing changed.
  abbrev pub MakesUpTo : {Setting : Type 0} → ℕ → DeskOf O Setting → DeskOf O Setting
      → Option Reported → Type 0
  MakesUpTo {Setting} most desk after (Some reported) =
      (count : ℕ) × (count < most) × (between : DeskOf O Setting) × HasGoneOn count desk between
      × HasCome between after (progress.Finished reported)
  MakesUpTo most desk after None =
      HasGoneOn most desk after ⊎ ((is_available O desk.actor ≡ true) × (after ≡ desk))

  -- an actor's job is at its beginning: no lock is held, no request stands, and no word was read
  abbrev pub IsAtBeginning : ActorOf O → Type 0
  IsAtBeginning Idle = ⊥
  IsAtBeginning (Does number a) = a ≡ begin O a.job

  -- a desk made this number of steps, one after another, none of which was denied a lock, and its
  -- job goes on
  abbrev pub HasGoneOnFreely : {Setting : Type 0} → ℕ → DeskOf O Setting → DeskOf O Setting → Type 0
  HasGoneOnFreely zero desk after = after ≡ desk
  HasGoneOnFreely {Setting} (suc count) desk after =
      (between : DeskOf O Setting) × (answer : Answer) × HasGoneOnFreely count desk between
      × HasCome between after (progress.Moved answer) × (denies answer ≡ false)

  -- a desk made some steps, none of which was denied a lock, and its job goes on
  abbrev pub GoesOnFreely : {Setting : Type 0} → DeskOf O Setting → DeskOf O Setting → Type 0
  GoesOnFreely desk after =
      (is_available O after.actor ≡ false) × ((count : ℕ) × HasGoneOnFreely count desk after)

  -- a desk made some steps, of which the last alone was denied a lock: the one with this word
  pub record WasDenied {Setting : Type 0} (desk after : DeskOf O Setting) (word : ℕ) : Type 0 where
    pub count : ℕ
    pub asking : DeskOf O Setting
    pub gone_on : HasGoneOnFreely count desk asking
    pub lock : O.Lock
    pub asks : asked_by asking.actor ≡ Some lock
    pub word_is : O.lock_word lock ≡ word
    pub answer : Answer
    pub came : HasCome asking after (progress.Moved answer)
    pub is_denial : denies answer ≡ true

  -- what follows is for tries of at least so many steps, unless they are denied a lock
  module _ (patience : ℕ) where
    -- a desk made some steps: it was denied the lock with this word; or it was denied none, and
    -- made as many steps as its patience at least
    abbrev pub HasMissed : {Setting : Type 0} → DeskOf O Setting → DeskOf O Setting → Option ℕ
        → Type 0
    HasMissed desk after (Some word) = WasDenied desk after word
    HasMissed desk after None =
        (count : ℕ) × (patience ≤ count) × HasGoneOnFreely count desk after

    -- a try that didn't end the job: the desk was denied the lock with this word, or it was denied
    -- none and the try took too long; then it gave back what it held, so the same job is at its
    -- beginning again
    pub record IsInVain {Setting : Type 0} (desk after : DeskOf O Setting) (denied : Option ℕ)
        : Type 0 where
      pub finished : HasFinished O desk after None
      pub beginning : IsAtBeginning after.actor
      pub between : DeskOf O Setting
      pub missed : HasMissed desk between denied
      pub back : HasGivenBack O between.number between.actor after.actor between.seen after.seen

    -- one try at a desk's job: the job ended, and this is its record; or the try was in vain
    abbrev pub IsTry : {Setting : Type 0} → DeskOf O Setting → DeskOf O Setting
        → Result Reported (Option ℕ) → Type 0
    IsTry desk after (Ok reported) =
        HasFinished O desk after (Some reported) × (is_available O after.actor ≡ true)
    IsTry desk after (Err denied) = IsInVain desk after denied

  -- what follows is for a policy that gives these answers, after each number of tries, of which the
  -- last was denied this lock or took too long
  module _ (Answers : ℕ → Option ℕ → Bool → Type 0) where
    -- after so many tries there is no further one: the policy said so, or it said each time to try
    -- again, and no more tries can be counted
    abbrev pub IsTheLast : ℕ → Option ℕ → Type 0
    IsTheLast made denied = Answers made denied false ⊎ (made + 2 ≡ 2 ^ 64)

    -- what follows is for tries with this patience
    module _ (patience : ℕ) where
      -- so many tries were made in vain, and after each the policy said to try again
      abbrev pub HasTriedInVain : {Setting : Type 0} → ℕ → DeskOf O Setting → DeskOf O Setting
          → Type 0
      HasTriedInVain zero desk after = after ≡ desk
      HasTriedInVain {Setting} (suc made) desk after =
          (between : DeskOf O Setting) × (denied : Option ℕ) × HasTriedInVain made desk between
          × IsTry patience between after (Err denied) × Answers (suc made) denied true

      -- tries were made at a desk's job, and the last of them ended it
      pub record HasEndedByTries {Setting : Type 0} (desk after : DeskOf O Setting)
          (reported : Reported) : Type 0 where
        pub made : ℕ
        pub between : DeskOf O Setting
        pub in_vain : HasTriedInVain made desk between
        pub last : IsTry patience between after (Ok reported)

      -- tries were made at a desk's job, all in vain, and there is no further one
      pub record HasFailed {Setting : Type 0} (desk after : DeskOf O Setting) : Type 0 where
        pub made : ℕ
        pub between : DeskOf O Setting
        pub in_vain : HasTriedInVain made desk between
        pub denied : Option ℕ
        pub last : IsTry patience between after (Err denied)
        pub gave_up : IsTheLast (suc made) denied

      -- tries were made at a desk's job, until one ended it or there was no further one
      abbrev pub HasTried : {Setting : Type 0} → DeskOf O Setting → DeskOf O Setting
          → Option Reported → Type 0
      HasTried desk after (Some reported) = HasEndedByTries desk after reported
      HasTried desk after None = HasFailed desk after

    -- what follows is for a policy that answers so when it is asked for a desk's patience
    module _ (Patience : ℕ → ℕ → Type 0) where
      -- a worker tried to end its desk's job. If there was none, nothing changed.
      pub record HasPersisted {Setting : Type 0} (desk after : DeskOf O Setting)
          (result : Option Reported)
          : Type 0 where
        pub idle : is_available O desk.actor ≡ true → (after ≡ desk) × (result ≡ None)
        pub tried : is_available O desk.actor ≡ false
            → (patience : ℕ) × Patience desk.number patience × HasTried patience desk after result

      -- a worker was given a job under a number, and tried to end it. If its desk was at another
      -- job, nothing changed.
      pub record HasDone {Setting : Type 0} (desk after : DeskOf O Setting) (number : ℕ)
          (job : O.Job) (result : Option Reported)
          : Type 0 where
        pub busy : is_available O desk.actor ≡ false → (after ≡ desk) × (result ≡ None)
        pub tried : is_available O desk.actor ≡ true
            → (patience : ℕ) × Patience desk.number patience
            × HasTried patience (record desk { actor = Does number (begin O job) }) after result

    -- an actor's job is at its beginning after some tries, and there is no further one
    pub record HasGivenUp (actor : ActorOf O) : Type 0 where
      pub beginning : IsAtBeginning actor
      pub made : ℕ
      pub denied : Option ℕ
      pub last : IsTheLast made denied

    -- a worker can't go on: its log of this length and capacity has no room, or it gave up its
    -- desk's job
    abbrev pub IsStuck : ℕ → ℕ → ActorOf O → Type 0
    IsStuck len capacity actor = (len ≡ capacity) ⊎ HasGivenUp actor

    -- a worker has stopped: no job has its log's length as number, or it is stuck
    abbrev pub HasStopped : (ℕ → Option O.Job → Type 0) → ℕ → ℕ → ActorOf O → Type 0
    HasStopped Names len capacity actor = Names len None ⊎ IsStuck len capacity actor

  -- what a worker came to was logged: true says that it came to a record, which is now the last of
  -- the log; false that it came to none, or that the log had no room and nothing was done
  abbrev pub HasLogged : (Option Reported → Type 0) → Type 0 → List Reported → List Reported
      → Bool → Type 0
  HasLogged ComesTo HadNoRoom log log_after true =
      (reported : Reported) × (log_after ≡ log ++ reported ∷ []) × ComesTo (Some reported)
  HasLogged ComesTo HadNoRoom log log_after false =
      (log_after ≡ log) × (ComesTo None ⊎ HadNoRoom)
