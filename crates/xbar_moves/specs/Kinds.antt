use Rattle.std.specs.Prelude.{ℕ, ◌<◌, ◌≤◌, Bool, true, false, List, [], ◌∷◌}
use Rattle.xbar_office.specs.declared.job.Job.{Job}
use Rattle.xbar_office.specs.declared.job.Job.TheVariants as job
use Rattle.xbar_moves.specs.declared.kinds.Kind.{Kind}
use Rattle.xbar_moves.specs.declared.kinds.Kind.TheVariants as kind

-- which jobs a marker of a kind takes: dial tone jobs, completing jobs and releases, or all
abbrev pub takes : Kind → Job → Bool
takes kind.Combined _ = true
takes kind.Dial (job.Dial line) = true
takes kind.Dial (job.Complete line dialled) = false
takes kind.Dial (job.Release line) = false
takes kind.Completing (job.Dial line) = false
takes kind.Completing (job.Complete line dialled) = true
takes kind.Completing (job.Release line) = true

-- an office has 1 to 48 markers
abbrev pub IsMarkerCount : ℕ → Type 0
IsMarkerCount count = (0 < count) × (count ≤ 48)

-- two markers that take all jobs
abbrev pub combined_pair : List Kind
combined_pair = kind.Combined ∷ kind.Combined ∷ []
