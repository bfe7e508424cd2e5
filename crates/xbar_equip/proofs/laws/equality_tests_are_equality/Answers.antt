use Rattle.xbar_equip.proofs.PathTests.{line_eq-exact, place_eq-exact, link_eq-exact, kind_eq-exact, conn_eq-exact}
use Rattle.xbar_equip.proofs.laws.equality_tests_are_equality.Goals as goal

pub returns-clause-line : goal.returns-clause-line
returns-clause-line c = line_eq-exact

pub returns-clause-place : goal.returns-clause-place
returns-clause-place c = place_eq-exact

pub returns-clause-link : goal.returns-clause-link
returns-clause-link c = link_eq-exact

pub returns-clause-kind : goal.returns-clause-kind
returns-clause-kind c = kind_eq-exact

pub returns-clause-conn : goal.returns-clause-conn
returns-clause-conn c = conn_eq-exact
