use Rattle.std.proofs.Common.{◌∙◌}
use Rattle.{turns.specs.Attempt.turn_in, desk_attempts.proofs.{SpeculationNow.{seen_far, seen_waiting}, FirstFieldFits.first_field_fits}}
use Rattle.desk_attempts.proofs.now.turn.Goals as goal

pub returns-in-Some : goal.returns-in-Some
returns-in-Some g c = seen_waiting g.S.Scripts.reply_of g.S.Scripts.effects_of (λ a. turn_in a.phase) c.args.program.now _ c.in-Some.ensures

pub returns-in-None : goal.returns-in-None
returns-in-None g c =
    c.turn.ensures
    ∙ seen_far g.S.Scripts.reply_of g.S.Scripts.effects_of (λ a. turn_in a.phase) c.program.inside.predicted c.program.inside.validated c.args.program.now
    c.program.view_is c.in-None.ensures

pub prediction-requires : goal.prediction-requires
prediction-requires g c = search

pub turn-requires : goal.turn-requires
turn-requires g c = search (first_field_fits)
