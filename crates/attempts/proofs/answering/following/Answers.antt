use Rattle.attempts.proofs.Following.{goes_on_there}
use Rattle.attempts.proofs.answering.following.Goals as goal

pub returns : goal.returns
returns g c =
    goes_on_there g.S.Lock.PartialEq.eq (g.S.Scripts.system c.args.setting.now).script _ _ _ _ c.args.word c.following.result c.walk_inputs.ensures.job
    c.walk_inputs.ensures.seen c.following.ensures
