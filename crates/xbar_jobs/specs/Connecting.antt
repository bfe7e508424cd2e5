use Rattle.std.specs.Prelude.{ℕ, Option, Some, None, List}
use Rattle.xbar_plan.specs.Tables.{Tables}
use Rattle.xbar_office.specs.declared.aim.Aim.{Aim}
use Rattle.xbar_office.specs.declared.aim.Aim.TheVariants.{DialTone, Connected}
use Rattle.xbar_office.specs.declared.reply.End.{End}
use Rattle.xbar_office.specs.declared.reply.End.TheVariants.{RegistersBusy, TrunksBusy}
use Rattle.turns.specs.Script.{Ends, ◌>>=◌}
use Rattle.xbar_jobs.specs.Closing.{refused, tried}
use Rattle.xbar_jobs.specs.Script.{Script}
use Rattle.xbar_jobs.specs.Trials.{two_trials_steps}
use Rattle.xbar_jobs.specs.Trunks.{find_trunk, trunks_of}
use Rattle.xbar_jobs.specs.declared.decision.Decision.{Decision}
use Rattle.xbar_jobs.specs.declared.party.CallParties.{CallParties}
use Rattle.xbar_jobs.specs.declared.party.Party.{Party}
use Rattle.xbar_jobs.specs.declared.trunks.IdleGroup.{IdleGroup}

-- the calling party alone, without a called one
abbrev pub alone : Party → CallParties
alone calling = record { calling = calling; called = None }

-- the end of a job for which no group has an idle member
abbrev pub busy_end : Aim → End
busy_end DialTone = RegistersBusy
busy_end Connected = TrunksBusy

-- if a group has an idle member, two trials are made, the first on that member
unfoldable pub try_trunk : Tables → Aim → CallParties → Option IdleGroup → Script Decision
try_trunk plan aim parties None = Ends (refused (busy_end aim))
try_trunk plan aim parties (Some idle) = do
  trials ← two_trials_steps plan parties (trunks_of plan idle.group idle.word) idle.first
  Ends (tried aim idle.group trials)

-- the parties are joined by a member of the first of these groups that has an idle one
unfoldable pub connect : Tables → Aim → CallParties → List ℕ → Script Decision
connect plan aim parties groups = do
  idle ← find_trunk plan groups
  try_trunk plan aim parties idle
