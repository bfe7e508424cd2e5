use Rattle.xbar_plan.proofs.LawfulLookups.{one_answer}
use Rattle.xbar_plan.proofs.laws.one_answer_fits_a_place.Goals as goal

pub returns : goal.returns
returns c = one_answer
