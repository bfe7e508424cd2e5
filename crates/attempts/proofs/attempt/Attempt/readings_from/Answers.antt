use Rattle.std.proofs.Common.{subst}
use Rattle.{turns.specs.Seen.AreReadWords, attempts.specs.Validity.AttemptView}
use Rattle.attempts.proofs.attempt.Attempt.readings_from.Goals as goal

pub returns-clause-words : goal.returns-clause-words
returns-clause-words g c = subst (λ (p : AttemptView _ _ _ _). AreReadWords p.readings) c.self.view_is c.fits_words.ensures
