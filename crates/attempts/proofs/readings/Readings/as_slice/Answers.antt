use Rattle.std.proofs.Common.{ℕ, List, subst}
use Rattle.turns.specs.{Seen.AreReadWords, declared.reading.Reading.Reading}
use Rattle.attempts.proofs.readings.Readings.as_slice.Goals as goal

pub returns-clause-words : goal.returns-clause-words
returns-clause-words g c = subst (λ (readings : List (Reading ℕ)). AreReadWords readings) c.self.view_is c.self.invariant.1
