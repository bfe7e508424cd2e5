use Rattle.turns.proofs.Walks.{walk_run}
use Rattle.turns.proofs.laws.walks_end_as_scripts_do.Goals as goal

pub returns : goal.returns
returns g c = λ setting words seen job decision read e. let O = g.F.Family.system setting in walk_run O.same words seen (O.script job) decision read e
