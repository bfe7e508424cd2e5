use Rattle.attempts.proofs.{EffectsLeft.{next_left, no_next_left}, Inside.{more_fits, undecided}}
use Rattle.attempts.proofs.next_step.next_effect.Goals as goal

pub returns-in-Some-clause-some : goal.returns-in-Some-clause-some
returns-in-Some-clause-some g c = next_left g.S.Scripts.effects_of _ _ _ _ c.attempt.view_is c.in-Some.is c.effect.ensures.effect

pub returns-in-Some-clause-none : goal.returns-in-Some-clause-none
returns-in-Some-clause-none g c = no_next_left g.S.Scripts.effects_of _ _ _ _ c.attempt.view_is c.in-Some.is c.effect.ensures.effect

pub returns-in-Some-clause-more : goal.returns-in-Some-clause-more
returns-in-Some-clause-more g c = more_fits _ _ c.effect.result c.attempt.view_is c.effect.ensures.more

pub returns-in-None-clause-none : goal.returns-in-None-clause-none
returns-in-None-clause-none g c = undecided g.S.Scripts.effects_of _ _ c.attempt.view_is c.in-None.is
