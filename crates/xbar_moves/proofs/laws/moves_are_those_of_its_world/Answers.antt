use Rattle.xbar_moves.proofs.WorldMoves.{restarted_in_world, assigned_in_world, has_to_give, steps_in_world}
use Rattle.xbar_moves.proofs.laws.moves_are_those_of_its_world.Goals as goal

pub returns-clause-steps : goal.returns-clause-steps
returns-clause-steps c = λ plan e k number a at gives. steps_in_world plan e k number a at gives

pub returns-clause-holds : goal.returns-clause-holds
returns-clause-holds c = λ plan e k number a lawful at. has_to_give plan e k number a at lawful

pub returns-clause-restarts : goal.returns-clause-restarts
returns-clause-restarts c = λ plan e k number a at. restarted_in_world plan e k number a at

pub returns-clause-assigns : goal.returns-clause-assigns
returns-clause-assigns c = assigned_in_world
