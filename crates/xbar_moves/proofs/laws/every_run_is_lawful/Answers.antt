use Rattle.xbar_moves.proofs.Runs.{run_lawful}
use Rattle.xbar_moves.proofs.laws.every_run_is_lawful.Goals as goal

pub returns : goal.returns
returns c = λ plan kinds moves laws few are. run_lawful plan laws kinds moves few are
