use Rattle.std.proofs.Common.{refl}
use Rattle.attempts.proofs.Applied.{not_read}
use Rattle.attempts.proofs.answering.apply_value.Goals as goal

pub returns-in_default : goal.returns-in_default
returns-in_default g c =
    not_read g.S.Lock.PartialEq.eq g.S.Scripts.reply_of g.S.Scripts.effects_of (g.S.Scripts.system c.args.setting.now)
    (g.S.Scripts.ResumePointIsValid c.args.setting.now) c.args.attempt.now c.args.attempt.now refl c.requires.valid.point c.args.value c.ranges.value.fits
    c.in_default.ensures.none
