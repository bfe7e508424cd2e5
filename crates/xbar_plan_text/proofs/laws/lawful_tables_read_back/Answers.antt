use Rattle.xbar_plan_text.proofs.WrittenPlan.{document-back}
use Rattle.xbar_plan_text.proofs.laws.lawful_tables_read_back.Goals as goal

pub returns : goal.returns
returns c = document-back
