use Rattle.xbar_plan_text.proofs.Versions.{document_too}
use Rattle.xbar_plan_text.proofs.laws.version_1_reads_the_same_as_version_2.Goals as goal

pub returns : goal.returns
returns c = document_too
