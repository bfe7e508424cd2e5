use Rattle.std.proofs.Common.{◌≡◌, List, [], ◌∷◌, refl, sym, subst, Result, Ok, Err, OnOk, OnErr}
use Rattle.{std.specs.declared.alloc.AllocError.AllocError, xbar_equip.specs.declared.path.Path.Path, xbar_plan.specs.{Tables.Tables, Lawful.IsLawful}}
use Rattle.xbar_office.specs.{LawfulSet.IsLawfulSet, Whole.whole, Legal.{IsJob, AreJobs, after_jobs}, declared.job.Job.Job}
use Rattle.xbar_office.specs.declared.{job.Job.TheVariants.{Dial, Complete, Release}, reply.Reply.Reply}
use Rattle.xbar_office.proofs.{CompletedJobs.lawful-complete, DialJobs.dial-adds, ReleaseJobs.lawful-release}

-- an office begins with the empty set, which is lawful
pub lawful-empty : (plan : Tables) → IsLawfulSet plan []
lawful-empty plan = record {
  orderly = record {
    set = tt;
    ranges = λ path within. absurd within;
    places = λ path within. absurd within;
    apart = λ p q in_p in_q shares. absurd in_p;
  };
  pairs = λ group index member listed second paired. refl;
}

-- a job leaves a lawful set
pub lawful-whole : (plan : Tables) (paths : List Path) (job : Job) → IsLawful plan → IsLawfulSet plan paths → IsJob job
    → IsLawfulSet plan (whole plan paths job).paths
lawful-whole plan paths (Dial line) laws lawful in_range = (dial-adds plan paths line laws in_range).lawful lawful
lawful-whole plan paths (Complete line dialled) laws lawful in_range = lawful-complete plan paths line dialled laws lawful in_range.0
lawful-whole plan paths (Release line) laws lawful in_range = lawful-release plan paths line laws lawful

-- and so do many
pub lawful-after : (plan : Tables) → IsLawful plan → (jobs : List Job) (paths : List Path) → IsLawfulSet plan paths → AreJobs jobs
    → IsLawfulSet plan (after_jobs plan paths jobs)
lawful-after plan laws [] paths lawful in_range = lawful
lawful-after plan laws (job ∷ jobs) paths lawful in_range =
    lawful-after plan laws jobs (whole plan paths job).paths (lawful-whole plan paths job laws lawful in_range.0) in_range.1

-- whether a job was done, or memory ran out
pub lawful-either : (plan : Tables) (paths : List Path) (job : Job) → IsLawful plan → IsLawfulSet plan paths → IsJob job
    → (result : Result Reply AllocError) (new : List Path) → OnOk result (new ≡ (whole plan paths job).paths) → OnErr result (new ≡ paths)
    → IsLawfulSet plan new
lawful-either plan paths job laws lawful is_job (Ok reply) new done kept =
    subst (λ (p : List Path). IsLawfulSet plan p) (sym done) (lawful-whole plan paths job laws lawful is_job)
lawful-either plan paths job laws lawful is_job (Err error) new done kept = subst (λ (p : List Path). IsLawfulSet plan p) (sym kept) lawful
