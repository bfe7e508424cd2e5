use Rattle.std.specs.Prelude.{◌≡◌, ℕ, ◌+◌, ◌*◌, ◌<◌, ◌^◌, Bool, true, false, None, MatchOption, IsSomeAnd, List, ◌∷◌, ◌++◌, All, flat_map, map, option_to_list}
use Rattle.fair_queue.specs.Items.{SameItems}
use Rattle.xbar_office.specs.declared.job.Job.{Job}
use Rattle.xbar_office.specs.declared.job.Job.TheVariants.{Complete, Dial, Release}
use Rattle.xbar_office.specs.declared.reply.End.{End}
use Rattle.xbar_office.specs.declared.reply.End.TheVariants.{Connected, DialTone}
use Rattle.xbar_office.specs.declared.reply.Record.{Record}
use Rattle.xbar_markers.specs.declared.call.Call.{Call}
use Rattle.xbar_markers.specs.declared.call_records.CallRecords.{CallRecords}

-- whether a job ended with dial tone
abbrev pub is_dial_tone : End → Bool
is_dial_tone (DialTone path trial) = true
is_dial_tone _ = false

-- whether a job ended with a connection
abbrev pub is_connected : End → Bool
is_connected (Connected calling called trial) = true
is_connected _ = false

-- a call's number leaves room for those of its jobs
abbrev pub HasCallNo : Call → Type 0
HasCallNo call = call.call_no < 2 ^ 30

-- the record is that of the call's job k, which is this job
pub record IsRecordOf (call : Call) (k : ℕ) (job : Job) (r : Record) : Type 0 where
  pub number : r.job_no ≡ 3 * call.call_no + k
  pub job_is : r.job ≡ job

-- a call's dial tone job is done, and no more
pub record IsDialled (c : CallRecords) : Type 0 where
  pub call_no : HasCallNo c.call
  pub dialled : IsRecordOf c.call 0 (Dial c.call.line) c.dial
  pub no_complete : c.complete ≡ None
  pub no_release : c.release ≡ None

-- a call's dial tone job is done and no more, and its line has dial tone
pub record HasDialTone (c : CallRecords) : Type 0 where
  pub dialled : IsDialled c
  pub tone : is_dial_tone c.dial.reply.end ≡ true

-- the call is to be released: that was asked for, and it was connected
abbrev pub IsToRelease : CallRecords → Type 0
IsToRelease c =
    (c.call.release ≡ true) × IsSomeAnd c.complete (λ r. is_connected r.reply.end ≡ true)

-- the record comes after the one before in the history: its turn is later, if no turn number comes
-- twice
abbrev pub IsLater : (short : Type 0) → Record → Record → Type 0
IsLater short before r = short → before.turn < r.turn

-- the record is by the same marker as the one before, and comes after it
pub record Follows (short : Type 0) (r before : Record) : Type 0 where
  pub marker : r.marker ≡ before.marker
  pub later : IsLater short before r

-- all is done for the call: it was dialled; completed, after that, exactly if its line got dial
-- tone; and released, after that and by the same marker, exactly if that was asked for and it was
-- connected
pub record IsServed (short : Type 0) (c : CallRecords) : Type 0 where
  pub dialled : IsRecordOf c.call 0 (Dial c.call.line) c.dial
  pub completed : MatchOption c.complete
      (is_dial_tone c.dial.reply.end ≡ false)
      (λ r. (is_dial_tone c.dial.reply.end ≡ true)
      × IsRecordOf c.call 1 (Complete c.call.line c.call.digits) r × IsLater short c.dial r)
  pub released : MatchOption c.release
      (¬ IsToRelease c)
      (λ r. IsToRelease c × IsRecordOf c.call 2 (Release c.call.line) r
      × IsSomeAnd c.complete (Follows short r))

-- the records of a call's jobs
abbrev pub records_of : CallRecords → List Record
records_of c = c.dial ∷ option_to_list c.complete ++ option_to_list c.release

-- each of the calls was served once, and the records are exactly those of their jobs
pub record AreServed (short : Type 0) (calls : List Call) (records : List Record) : Type 0 where
  pub by_call : List CallRecords
  pub each : All (IsServed short) by_call
  pub calls_are : SameItems (map (λ c. c.call) by_call) calls
  pub records_are : SameItems (flat_map records_of by_call) records
