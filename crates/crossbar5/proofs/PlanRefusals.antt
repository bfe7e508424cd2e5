-- a plan that is refused refuses any run
use Rattle.std.proofs.Common.{◌≡◌, [], refl, sym, subst, List, Option, Some, None, Err, IfSome, ℕ}
use Rattle.{xbar_plan.specs.declared.fault.PlanFault.PlanFault, crossbar5.specs.{PlanRefusal.{Response, IsAnswerOf, IsPlanRefusal, PlanRead}, Input.IsInputOf}}
use Rattle.crossbar5.specs.declared.{input.Input.{Input, TheVariants.Refused}, written.{Status.Status, Written.Written}}

-- a refused plan is reported, whatever the input is, known or not
pub refused_plan : (IsUnder : Response) (all : Option (List ℕ)) (plan : PlanRead) (fault : PlanFault) (text : List ℕ) (status : Status) → plan ≡ Err fault
    → IsPlanRefusal fault text status
    → (input : List ℕ) × IfSome all (λ bytes. input ≡ bytes) × IsAnswerOf IsUnder plan input text status
refused_plan IsUnder None plan fault text status refused written =
    ([], tt, subst (λ (read : PlanRead). IsAnswerOf IsUnder read [] text status) (sym refused) written)
refused_plan IsUnder (Some bytes) plan fault text status refused written =
    (bytes, refl, subst (λ (read : PlanRead). IsAnswerOf IsUnder read bytes text status) (sym refused) written)

-- so is a plan that was refused when it was read
pub refused_input : (IsUnder : Response) (all : Option (List ℕ)) (plan : PlanRead) (input : Input) (written : Written) → input ≡ Refused written
    → IsInputOf plan all input
    → (bytes : List ℕ) × IfSome all (λ whole. bytes ≡ whole) × IsAnswerOf IsUnder plan bytes written.text.items written.status
refused_input IsUnder all plan input written is given =
    let told = subst (IsInputOf plan all) is given in refused_plan IsUnder all plan told.0 written.text.items written.status told.1 told.2
