use Rattle.std.specs.Prelude.{◌≡◌, ℕ, ◌+◌, List, [], ◌∷◌, map}
use Rattle.xbar_equip.specs.Dialled.{IsDialled}
use Rattle.xbar_equip.specs.Len.{IsLine}
use Rattle.xbar_equip.specs.declared.path.Path.{Path}
use Rattle.xbar_plan.specs.Tables.{Tables}
use Rattle.xbar_office.specs.Whole.{whole}
use Rattle.xbar_office.specs.declared.job.Job.{Job}
use Rattle.xbar_office.specs.declared.job.Job.TheVariants.{Dial, Complete, Release}
use Rattle.xbar_office.specs.declared.reply.Record.{Record}

-- the line of the job, and the digits that it dialled, are in range
abbrev pub IsJob : Job → Type 0
IsJob (Dial line) = IsLine line
IsJob (Complete line dialled) = IsLine line × IsDialled dialled
IsJob (Release line) = IsLine line

-- each of the jobs is in range
abbrev pub AreJobs : List Job → Type 0
AreJobs [] = Unit {0}
AreJobs (job ∷ jobs) = IsJob job × AreJobs jobs

-- the set after jobs that are done whole, one after another
abbrev pub after_jobs : Tables → List Path → List Job → List Path
after_jobs plan paths [] = paths
after_jobs plan paths (job ∷ jobs) = after_jobs plan (whole plan paths job).paths jobs

-- the jobs of records
abbrev pub jobs_of : List Record → List Job
jobs_of records = map (λ r. r.job) records

-- the set after a list of records
abbrev pub after : Tables → List Record → List Path
after plan records = after_jobs plan [] (jobs_of records)

-- the records have the turns from this one on, in order
abbrev pub HaveTurns : ℕ → List Record → Type 0
HaveTurns turn [] = Unit {0}
HaveTurns turn (r ∷ records) = (r.turn ≡ turn) × HaveTurns (turn + 1) records

-- each record has the reply of the one-marker office on the set that the records before it left,
-- the first on this set
abbrev pub HaveReplies : Tables → List Path → List Record → Type 0
HaveReplies plan paths [] = Unit {0}
HaveReplies plan paths (r ∷ records) =
    (r.reply ≡ (whole plan paths r.job).reply)
    × HaveReplies plan (whole plan paths r.job).paths records

-- a legal list of records: the jobs are in range, the turns begin at 0, and the replies are those
-- of an office that begins with the empty set
pub record IsLegal (plan : Tables) (records : List Record) : Type 0 where
  pub jobs : AreJobs (jobs_of records)
  pub turns : HaveTurns 0 records
  pub replies : HaveReplies plan [] records
