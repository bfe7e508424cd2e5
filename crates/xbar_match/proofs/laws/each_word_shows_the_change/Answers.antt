use Rattle.xbar_equip.specs.Paths.{with_path, without_path}
use Rattle.xbar_match.proofs.{PathEffects.{with_path-adds, without_path-removes}, OneWord.{close_path_in-shows, open_path_in-shows}}
use Rattle.xbar_match.proofs.laws.each_word_shows_the_change.Goals as goal

pub returns-clause-closing : goal.returns-clause-closing
returns-clause-closing c =
    λ paths path n word ranges p idle. close_path_in-shows paths (with_path paths path) path n word ranges p idle (with_path-adds paths path)

pub returns-clause-opening : goal.returns-clause-opening
returns-clause-opening c =
    λ paths path n word ranges apart is_set within. open_path_in-shows paths (without_path paths path) path n word ranges apart within
    (without_path-removes paths path is_set)
