use Rattle.{xbar_equip.specs.Paths.without_path, xbar_match.proofs.PathEffects.{four_opened, open_path-shows, without_path-removes}}
use Rattle.xbar_match.proofs.laws.opening_a_path_removes_it.Goals as goal

pub returns-clause-steps : goal.returns-clause-steps
returns-clause-steps c = λ words paths path long shows ranges within. (four_opened words paths path long shows ranges within).steps

pub returns-clause-set : goal.returns-clause-set
returns-clause-set c =
    λ words paths path long shows ranges apart is_set within. open_path-shows words paths (without_path paths path) path long shows ranges apart within
    (without_path-removes paths path is_set)
