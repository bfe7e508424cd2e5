use Rattle.std.proofs.Common.{refl}
use Rattle.turns.proofs.Moving.{opens, assigns, keeps, gives_back}
use Rattle.turns.proofs.laws.every_move_keeps_the_law.Goals as goal

pub returns : goal.returns
returns g c = record {
  opens = λ setting count system few. opens (g.F.Family.system setting) system count few;
  assigns = λ setting w k number m job system law there free given. assigns (g.F.Family.system setting) system w law k number m job there free given;
  moves = λ setting w k number a system law there. keeps (g.F.Family.system setting) system w law k number a there;
  gives_back = λ setting w k number a system law there. gives_back (g.F.Family.system setting) system w law k number a there;
  records = λ setting w k number a. refl;
}
