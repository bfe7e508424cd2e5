-- Where the diagnostics of refused plans point.
use Rattle.std.specs.Prelude.{◌≡◌, Option, None, Some, Ok}
use Rattle.xbar_plan.specs.declared.table_fault.PlanList.{PlanList}
use Rattle.xbar_plan_text.specs.Refusal.{Item, PointsTo, malformed_in, missing_in}
use Rattle.xbar_plan_text.specs.declared.refusal.PlanRefusal.{PlanRefusal}
use Rattle.xbar_diagnostics.specs.declared.plan.PlanDiagnostic.{PlanDiagnostic}
use Rattle.crossbar5.specs.Refusal.{Explanation}
use Rattle.crossbar5.specs.declared.written.Diagnostic.TheVariants.{Plan}
use Rattle.crossbar5.specs.declared.input.PlanSource.{PlanSource}
use Rattle.crossbar5.specs.declared.input.PlanSource.TheVariants.{Example, Text}

-- the first list that is missing in the plan of a source; the example plan has them all
abbrev pub missing_of : PlanSource → Option PlanList
missing_of Example = None
missing_of (Text text) = missing_in text.now

-- the first malformed item of the plan of a source; the example plan has none
abbrev pub malformed_of : PlanSource → Option Item
malformed_of Example = None
malformed_of (Text text) = malformed_in text.now

-- if there is a diagnostic of the plan, it points to the first list that is missing, or to the
-- first malformed item, with its text
abbrev pub ShowsPlaceIn : PlanSource → Explanation → Type 0
ShowsPlaceIn plan explanation = (diagnostic : PlanDiagnostic)
    → explanation ≡ Ok (Some (Plan diagnostic))
    → PointsTo (missing_of plan) (malformed_of plan) diagnostic.refusal

-- if there is a diagnostic of a plan, it is of this refusal
abbrev pub IsOnRefusal : PlanRefusal → Explanation → Type 0
IsOnRefusal refusal explanation = (diagnostic : PlanDiagnostic)
    → explanation ≡ Ok (Some (Plan diagnostic)) → diagnostic.refusal ≡ refusal
