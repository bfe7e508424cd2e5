use Rattle.desk_attempts.proofs.WordSteps.{step_made}
use Rattle.desk_attempts.proofs.jobs.on_word.Goals as goal

pub returns-clause-makes : goal.returns-clause-makes
returns-clause-makes g c =
    step_made g.S.Lock.PartialEq.eq g.S.Scripts.reply_of g.S.Scripts.effects_of (g.S.Scripts.system c.args.setting.now)
    (g.S.Scripts.ResumePointIsValid c.args.setting.now) _ _ (g.met.S.InRoom.are_scripts c.args.setting.now c.requires.valid.0) _ c.args.actor c.args.step
    (record { place = c.step_word.result; operation = c.step_operation.result }) c.requires.valid.1.place c.requires.next c.in_default.not-Finished c.step_word.ensures
    c.step_operation.ensures
