use Rattle.std.proofs.Common.{◌∙◌}
use Rattle.{turns.specs.{Attempt.act, Runs.is_finished}, desk_attempts.proofs.{SpeculationNow.{seen_far, seen_waiting}, FirstFieldFits.first_field_fits}}
use Rattle.desk_attempts.proofs.now.has_ended.Goals as goal

pub returns-in-Some : goal.returns-in-Some
returns-in-Some g c = seen_waiting g.S.Scripts.reply_of g.S.Scripts.effects_of (λ a. is_finished (act a)) c.args.program.now _ c.in-Some.ensures

pub returns-in-None : goal.returns-in-None
returns-in-None g c =
    c.is_done.ensures
    ∙ seen_far g.S.Scripts.reply_of g.S.Scripts.effects_of (λ a. is_finished (act a)) c.program.inside.predicted c.program.inside.validated c.args.program.now
    c.program.view_is c.in-None.ensures

pub prediction-requires : goal.prediction-requires
prediction-requires g c = search

pub is_done-requires : goal.is_done-requires
is_done-requires g c = search (first_field_fits)
