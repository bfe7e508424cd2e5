use Rattle.std.proofs.Common.{◌∙◌}
use Rattle.desk_attempts.proofs.{SpeculationNow.prediction_at, FirstFieldFits.first_field_fits}
use Rattle.desk_attempts.proofs.speculation.Speculation.prediction.Goals as goal

pub returns : goal.returns
returns g c =
    c.reading.ensures ∙ prediction_at c.self.inside.predicted c.self.inside.validated c.args.self.now c.self.view_is c.in_ok-made.made c.in_ok-made.was

pub reading-requires : goal.reading-requires
reading-requires g c = search (first_field_fits)
