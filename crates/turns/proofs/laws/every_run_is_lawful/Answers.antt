use Rattle.turns.proofs.Runs.{runs}
use Rattle.turns.proofs.laws.every_run_is_lawful.Goals as goal

pub returns : goal.returns
returns g c = λ setting count moves system few are. runs (g.F.Family.system setting) system count moves few are
