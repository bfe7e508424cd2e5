use Rattle.std.proofs.Common.{ap, subst}
use Rattle.{turns.specs.Seen.AreReadWords, desk_attempts.proofs.FirstFieldFits.first_field_fits}
use Rattle.desk_attempts.proofs.speculation.Speculation.predictions.Goals as goal

pub readings_from-requires : goal.readings_from-requires
readings_from-requires g c = search (first_field_fits)

pub readings_from-readings-requires : goal.readings_from-readings-requires
readings_from-readings-requires g c = search (first_field_fits)

pub returns-in-Some-clause-words : goal.returns-in-Some-clause-words
returns-in-Some-clause-words g c = subst AreReadWords (ap (λ a. a.predicted.readings) c.self.view_is) c.readings_from.ensures.words

pub returns-in-None-clause-words : goal.returns-in-None-clause-words
returns-in-None-clause-words g c = subst AreReadWords (ap (λ a. a.predicted.readings) c.self.view_is) c.readings_from-readings.ensures.words
