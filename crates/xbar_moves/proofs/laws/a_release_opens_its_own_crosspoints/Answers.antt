use Rattle.xbar_moves.proofs.{OwnCrosspoints.opens_own, ReleaseTurns.{fixed_at_turn, makes_one}, TurnedJobs.decided}
use Rattle.xbar_moves.proofs.laws.a_release_opens_its_own_crosspoints.Goals as goal

pub returns-clause-turn : goal.returns-clause-turn
returns-clause-turn c =
    λ plan e k number a line own other cards laws lawful at turns does replied. fixed_at_turn plan laws e lawful k number a at turns line own other cards does
    replied

pub returns-clause-each : goal.returns-clause-each
returns-clause-each c = λ plan e k number turn a effect effects at past left. makes_one plan e k number turn a effect effects at past left

pub returns-clause-left : goal.returns-clause-left
returns-clause-left c =
    λ plan e k number turn a line own other cards laws lawful at past does replied. opens_own plan laws e k a
    (decided plan laws e lawful k number turn a at past) line does own other cards replied
