use Rattle.std.proofs.Common.{ap, ◌∙◌}
use Rattle.{turns.specs.Attempt.giving_back, attempts.specs.{Validity.{AttemptView, attempt_of}, SystemWith.system_with}}
use Rattle.attempts.proofs.starting.roll_back.Goals as goal

pub clear_readings-requires : goal.clear_readings-requires
clear_readings-requires g c = search

pub returns-clause-frees : goal.returns-clause-frees
returns-clause-frees g c =
    λ setting. c.give_back.ensures.frees setting
    ∙ ap (λ (p : AttemptView _ _ _ _). giving_back (system_with g.S.Lock.PartialEq.eq g.S.Scripts.reply_of g.S.Scripts.effects_of (g.S.Scripts.system setting))
    (attempt_of g.S.Scripts.reply_of g.S.Scripts.effects_of p) p.held) c.clear_readings.ensures

pub returns-clause-point : goal.returns-clause-point
returns-clause-point g c = c.give_back.ensures.point

pub returns-clause-count : goal.returns-clause-count
returns-clause-count g c = c.give_back.ensures.count ∙ ap (λ (p : AttemptView _ _ _ _). p.count) c.clear_readings.ensures

pub give_back-requires : goal.give_back-requires
give_back-requires g c = search
