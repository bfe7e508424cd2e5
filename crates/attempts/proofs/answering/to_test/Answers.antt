use Rattle.std.proofs.Common.{◌∙◌}
use Rattle.{turns.specs.declared.phase.Phase.TheVariants.Tests, attempts.proofs.{Inside.{phase_now, same_phase}, Onward.may_read}}
use Rattle.attempts.proofs.answering.to_test.Goals as goal

pub returns-in-Tests-clause-reads : goal.returns-in-Tests-clause-reads
returns-in-Tests-clause-reads g c =
    may_read g.S.Lock.PartialEq.eq g.S.Scripts.reply_of g.S.Scripts.effects_of (g.S.Scripts.system c.args.setting.now)
    (g.S.Scripts.ResumePointIsValid c.args.setting.now) _ _ c.requires.scripts c.args.attempt.now c.in-Tests.word c.args.value c.ranges.value.fits
    c.requires.valid (phase_now _ c.args.attempt.now (Tests c.in-Tests.word) c.attempt.view_is c.in-Tests.is)

pub returns-in_default-clause-none : goal.returns-in_default-clause-none
returns-in_default-clause-none g c = λ word is. c.in_default.not-Tests word (same_phase _ c.args.attempt.now c.attempt.view_is ∙ is)
