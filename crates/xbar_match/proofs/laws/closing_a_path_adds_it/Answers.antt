use Rattle.{xbar_equip.specs.Paths.with_path, xbar_match.proofs.PathEffects.{four_closed, close_path-shows, with_path-adds}}
use Rattle.xbar_match.proofs.laws.closing_a_path_adds_it.Goals as goal

pub returns-clause-steps : goal.returns-clause-steps
returns-clause-steps c = λ words paths path long shows ranges p idle. (four_closed words paths path long shows ranges p idle).steps

pub returns-clause-set : goal.returns-clause-set
returns-clause-set c =
    λ words paths path long shows ranges p idle. close_path-shows words paths (with_path paths path) path long shows ranges p idle (with_path-adds paths path)
