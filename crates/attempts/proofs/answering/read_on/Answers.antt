use Rattle.attempts.proofs.Applied.{walks_from}
use Rattle.attempts.proofs.answering.read_on.Goals as goal

pub returns : goal.returns
returns g c =
    walks_from g.S.Lock.PartialEq.eq g.S.Scripts.reply_of g.S.Scripts.effects_of (g.S.Scripts.system c.args.setting.now)
    (g.S.Scripts.ResumePointIsValid c.args.setting.now) c.add_reading.new.self _ c.walk_on.new.attempt c.add_reading.ensures c.walk_on.ensures
