use Rattle.xbar_plan.proofs.LawfulPlans.{member-paired, pair-frame, pair-apart}
use Rattle.xbar_plan.proofs.laws.intra_members_are_pairs.Goals as goal

pub returns-clause-intra : goal.returns-clause-intra
returns-clause-intra c = member-paired

pub returns-clause-frame : goal.returns-clause-frame
returns-clause-frame c = pair-frame

pub returns-clause-apart : goal.returns-clause-apart
returns-clause-apart c = pair-apart
