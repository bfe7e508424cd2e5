use Rattle.turns.proofs.GrowingOrder.{move_grows, run_grows}
use Rattle.turns.proofs.laws.the_order_only_grows.Goals as goal

pub returns-clause-each : goal.returns-clause-each
returns-clause-each g c = λ setting w move. move_grows (g.F.Family.system setting) w move

pub returns-clause-run : goal.returns-clause-run
returns-clause-run g c = λ setting w moves. run_grows (g.F.Family.system setting) w moves
