use Rattle.std.proofs.Common.{refl}
use Rattle.attempts.proofs.Applied.{follows, reads}
use Rattle.attempts.proofs.answering.read.Goals as goal

pub returns-in-Some : goal.returns-in-Some
returns-in-Some g c =
    follows g.S.Lock.PartialEq.eq g.S.Scripts.reply_of g.S.Scripts.effects_of (g.S.Scripts.system c.args.setting.now)
    (g.S.Scripts.ResumePointIsValid c.args.setting.now) c.args.attempt.now _ c.read_up_to.new.attempt c.args.reading.word c.args.reading.value
    c.requires.reads.tests c.requires.reads.fits refl c.in-Some.next c.in-Some.ensures c.requires.reads.walk c.read_up_to.ensures

pub returns-in-None : goal.returns-in-None
returns-in-None g c =
    reads g.S.Lock.PartialEq.eq g.S.Scripts.reply_of g.S.Scripts.effects_of (g.S.Scripts.system c.args.setting.now)
    (g.S.Scripts.ResumePointIsValid c.args.setting.now) c.args.attempt.now _ c.read_on.new.attempt c.args.reading.word c.args.reading.value
    c.requires.reads.tests c.requires.reads.fits refl c.read_on.ensures
