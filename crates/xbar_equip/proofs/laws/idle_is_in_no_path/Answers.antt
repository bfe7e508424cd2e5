use Rattle.xbar_equip.proofs.PathTests.{idle-none, none-idle, line_eq-exact, place_eq-exact, has_link-exact}
use Rattle.xbar_equip.proofs.laws.idle_is_in_no_path.Goals as goal

pub returns-clause-idle : goal.returns-clause-idle
returns-clause-idle c = λ has paths. (none-idle has paths, idle-none has paths)

pub returns-clause-line : goal.returns-clause-line
returns-clause-line c = λ line path. line_eq-exact path.line line

pub returns-clause-place : goal.returns-clause-place
returns-clause-place c = λ place path. place_eq-exact path.place place

pub returns-clause-link : goal.returns-clause-link
returns-clause-link c = has_link-exact
