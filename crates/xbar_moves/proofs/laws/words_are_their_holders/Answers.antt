use Rattle.xbar_moves.proofs.{Actors.actor_at, HeldWords.{holds_alone, spares_held}, FreedConnectors.free_spares}
use Rattle.xbar_moves.proofs.laws.words_are_their_holders.Goals as goal

pub returns-clause-alone : goal.returns-clause-alone
returns-clause-alone c = λ plan e k number a conn lawful at protects. holds_alone plan e lawful k number a at conn protects

pub returns-clause-spared : goal.returns-clause-spared
returns-clause-spared c = λ plan e k n conn lawful protects free. spares_held plan e lawful k n conn protects free

pub returns-clause-read : goal.returns-clause-read
returns-clause-read c = λ plan e k number a r lawful at within. ((lawful.sound k number a (actor_at e k number a at)).read r within).value

pub returns-clause-frees : goal.returns-clause-frees
returns-clause-frees c = free_spares
