use Rattle.turns.proofs.{Consequences.decided_before, KeptLocks.{frees_when, keeps_lock}}
use Rattle.turns.proofs.laws.attempts_keep_their_order.Goals as goal

pub returns-clause-decided : goal.returns-clause-decided
returns-clause-decided g c = λ setting w k number a turn law there at. decided_before (g.F.Family.system setting) w k number a turn law there at

pub returns-clause-frees : goal.returns-clause-frees
returns-clause-frees g c = λ setting a lock frees. frees_when (g.F.Family.system setting) a lock frees

pub returns-clause-keeps : goal.returns-clause-keeps
returns-clause-keeps g c = λ setting a answer lock held kept. keeps_lock (g.F.Family.system setting) a answer lock held kept
