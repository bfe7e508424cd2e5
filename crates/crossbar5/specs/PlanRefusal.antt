use Rattle.std.specs.Prelude.{◌≡◌, ℕ, List, ◌++◌, Result, Ok, Err, codes}
use Rattle.xbar_plan_text.specs.Document.{plan_of}
use Rattle.xbar_plan.specs.Example.{example}
use Rattle.xbar_plan.specs.Fault.{fault_text}
use Rattle.xbar_plan.specs.Tables.{Tables}
use Rattle.xbar_plan.specs.declared.fault.PlanFault.{PlanFault}
use Rattle.crossbar5.specs.declared.input.PlanSource.{PlanSource}
use Rattle.crossbar5.specs.declared.input.PlanSource.TheVariants.{Example, Text}
use Rattle.crossbar5.specs.declared.written.Status.{Status}
use Rattle.crossbar5.specs.declared.written.Status.TheVariants.{PlanRefused}

-- a plan as it is read: its tables, or its fault
abbrev pub PlanRead : Type 0
PlanRead = Result Tables PlanFault

-- the plan of a source
abbrev pub plan_in : PlanSource → PlanRead
plan_in Example = Ok example
plan_in (Text text) = plan_of text.now

-- the line that says why a plan is refused
abbrev pub plan_fault_line : PlanFault → List ℕ
plan_fault_line fault = codes "FAULT," ++ (fault_text fault ++ codes "\n")

-- the text and the status report that a plan is refused for this fault
pub record IsPlanRefusal (fault : PlanFault) (text : List ℕ) (status : Status) : Type 0 where
  pub text_is : text ≡ plan_fault_line fault
  pub status_is : status ≡ PlanRefused

-- the plan is refused
abbrev pub IsRefusedPlan : PlanRead → Type 0
IsRefusedPlan plan = (fault : PlanFault) × (plan ≡ Err fault)

-- which text and status a run may have, by the plan's tables and the input
abbrev pub Response : Type 1
Response = Tables → List ℕ → List ℕ → Status → Type 0

-- a refused plan is reported, whatever the input; under any other plan the answer is this one
abbrev pub IsAnswerOf : Response → PlanRead → List ℕ → List ℕ → Status → Type 0
IsAnswerOf IsUnder (Err fault) input text status = IsPlanRefusal fault text status
IsAnswerOf IsUnder (Ok plan) input text status = IsUnder plan input text status
