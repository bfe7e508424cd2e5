use Rattle.xbar_moves.proofs.{Steps.step_adds, Worlds.{lawful_assigned, lawful_restarted, lawful_given_back, lawful_opened, lawful_settled, lawful_stepped}}
use Rattle.xbar_moves.proofs.laws.every_move_keeps_the_law.Goals as goal

pub returns-clause-opens : goal.returns-clause-opens
returns-clause-opens c = lawful_opened

pub returns-clause-assigns : goal.returns-clause-assigns
returns-clause-assigns c = lawful_assigned

pub returns-clause-steps : goal.returns-clause-steps
returns-clause-steps c = lawful_stepped

pub returns-clause-restarts : goal.returns-clause-restarts
returns-clause-restarts c = lawful_restarted

pub returns-clause-gives_back : goal.returns-clause-gives_back
returns-clause-gives_back c = lawful_given_back

pub returns-clause-settles : goal.returns-clause-settles
returns-clause-settles c = lawful_settled

pub returns-clause-adds : goal.returns-clause-adds
returns-clause-adds c = step_adds
