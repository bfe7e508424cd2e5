-- one record more at the end of legal records
use Rattle.std.proofs.Common.{◌≡◌, ℕ, ◌+◌, List, [], ◌∷◌, ◌++◌, length, refl, arith}
use Rattle.{xbar_equip.specs.declared.path.Path.Path, xbar_plan.specs.{Tables.Tables, Lawful.IsLawful}, xbar_office.specs.{LawfulSet.IsLawfulSet, Whole.whole}}
use Rattle.xbar_office.specs.{Legal.{IsJob, AreJobs, IsLegal, HaveTurns, HaveReplies, jobs_of, after, after_jobs}, declared.reply.Record.Record}
use Rattle.xbar_office.proofs.LawfulJobs.{lawful-empty, lawful-after}

after_last : (plan : Tables) (paths : List Path) (records : List Record) (last : Record)
    → after_jobs plan paths (jobs_of (records ++ last ∷ [])) ≡ (whole plan (after_jobs plan paths (jobs_of records)) last.job).paths
after_last plan paths [] last = refl
after_last plan paths (r ∷ records) last = after_last plan (whole plan paths r.job).paths records last

-- the set after one record more is what its job leaves of the set before it
pub after-one_more : (plan : Tables) (records : List Record) (last : Record)
    → after plan (records ++ last ∷ []) ≡ (whole plan (after plan records) last.job).paths
after-one_more plan records last = after_last plan [] records last

pub jobs_last : (records : List Record) (last : Record) → IsJob last.job → AreJobs (jobs_of records) → AreJobs (jobs_of (records ++ last ∷ []))
jobs_last [] last is_job are = (is_job, tt)
jobs_last (r ∷ records) last is_job are = (are.0, jobs_last records last is_job are.1)

pub turns_last : (turn : ℕ) (records : List Record) (last : Record) → last.turn ≡ turn + length records → HaveTurns turn records
    → HaveTurns turn (records ++ last ∷ [])
turns_last turn [] last is have = (omega arith, tt)
turns_last turn (r ∷ records) last is have = (have.0, turns_last (turn + 1) records last (omega arith) have.1)

pub replies_last : (plan : Tables) (paths : List Path) (records : List Record) (last : Record)
    → last.reply ≡ (whole plan (after_jobs plan paths (jobs_of records)) last.job).reply → HaveReplies plan paths records
    → HaveReplies plan paths (records ++ last ∷ [])
replies_last plan paths [] last reply have = (reply, tt)
replies_last plan paths (r ∷ records) last reply have = (have.0, replies_last plan (whole plan paths r.job).paths records last reply have.1)

-- legal records stay legal with one more that has the next turn and the reply of the one-marker
-- office
pub legal-one_more : (plan : Tables) (records : List Record) (last : Record) → IsLegal plan records → IsJob last.job → last.turn ≡ length records
    → last.reply ≡ (whole plan (after plan records) last.job).reply → IsLegal plan (records ++ last ∷ [])
legal-one_more plan records last legal is_job turn reply = record {
  jobs = jobs_last records last is_job legal.jobs;
  turns = turns_last 0 records last (omega arith) legal.turns;
  replies = replies_last plan [] records last reply legal.replies;
}

-- the empty list of records is legal
pub legal-empty : (plan : Tables) → IsLegal plan []
legal-empty plan = record { jobs = tt; turns = tt; replies = tt }

-- the set after legal records is lawful
pub lawful-after_records : (plan : Tables) (records : List Record) → IsLawful plan → IsLegal plan records → IsLawfulSet plan (after plan records)
lawful-after_records plan records laws legal = lawful-after plan laws (jobs_of records) [] (lawful-empty plan) legal.jobs
