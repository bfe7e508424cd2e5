use Rattle.std.proofs.Common.{subst}
use Rattle.{turns.specs.Seen.AreReadWords, attempts.specs.WalkOnWords.WalkState}
use Rattle.attempts.proofs.seen.Seen.fits_words.Goals as goal

pub returns : goal.returns
returns g c = subst (λ (state : WalkState _). AreReadWords state.seen.readings) c.self.view_is c.as_slice-readings.ensures.words
