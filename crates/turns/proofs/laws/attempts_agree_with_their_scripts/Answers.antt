use Rattle.turns.proofs.Standing.{stands_begin, stands_change, stands_restarted}
use Rattle.turns.proofs.laws.attempts_agree_with_their_scripts.Goals as goal

pub returns-clause-begins : goal.returns-clause-begins
returns-clause-begins g c = λ setting job is right. stands_begin (g.F.Family.system setting) is job right

pub returns-clause-changes : goal.returns-clause-changes
returns-clause-changes g c = λ setting a answer is right read valid. stands_change (g.F.Family.system setting) is a answer right read valid

pub returns-clause-restarts : goal.returns-clause-restarts
returns-clause-restarts g c = λ setting a is right read valid. stands_restarted (g.F.Family.system setting) is a right read valid
