use Rattle.turns.proofs.Consequences.{alone, spared}
use Rattle.turns.proofs.laws.words_are_their_holders.Goals as goal

pub returns-clause-alone : goal.returns-clause-alone
returns-clause-alone g c = λ setting w k number a lock system law there under. alone (g.F.Family.system setting) system w law k number a lock there under

pub returns-clause-spared : goal.returns-clause-spared
returns-clause-spared g c =
    λ setting w k number a n lock system law there under apart. spared (g.F.Family.system setting) system w law k number a n lock there under apart
