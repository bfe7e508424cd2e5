-- The input of a run.
use Rattle.std.specs.Prelude.{◌≡◌, ℕ, List, Option, Ok, Err, IfSome, ⊤}
use Rattle.xbar_plan.specs.declared.fault.PlanFault.{PlanFault}
use Rattle.crossbar5.specs.PlanPlaces.{ShowsPlaceIn}
use Rattle.crossbar5.specs.PlanRefusal.{IsPlanRefusal, PlanRead}
use Rattle.crossbar5.specs.declared.input.Input.{Input}
use Rattle.crossbar5.specs.declared.input.Input.TheVariants.{Read, Refused}
use Rattle.crossbar5.specs.declared.input.PlanSource.{PlanSource}

-- the tables are those of the plan, and the bytes are all that the source had left, if that is
-- known; or the plan is refused, and what is written says so
abbrev pub IsInputOf : PlanRead → Option (List ℕ) → Input → Type 0
IsInputOf plan remaining (Read tables bytes) =
    (plan ≡ Ok tables) × IfSome remaining (λ all. bytes.items ≡ all)
IsInputOf plan remaining (Refused written) =
    (fault : PlanFault) × (plan ≡ Err fault)
    × IsPlanRefusal fault written.text.items written.status

-- if the plan is refused, the diagnostic points to what is missing or malformed
abbrev pub ShowsPlaceIfRefused : PlanSource → Input → Type 0
ShowsPlaceIfRefused plan (Read tables bytes) = ⊤
ShowsPlaceIfRefused plan (Refused written) = ShowsPlaceIn plan written.diagnostic
