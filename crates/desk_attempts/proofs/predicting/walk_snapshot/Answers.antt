use Rattle.std.proofs.Common.{refl}
use Rattle.desk_attempts.proofs.SnapshotWalks.{has_seen, may_go_back}
use Rattle.desk_attempts.proofs.predicting.walk_snapshot.Goals as goal

pub returns : goal.returns
returns g c =
    let seen =
    has_seen g.S.Lock.PartialEq.eq g.S.Scripts.reply_of g.S.Scripts.effects_of (g.S.Scripts.system c.args.setting.now)
    (g.S.Scripts.ResumePointIsValid c.args.setting.now) (λ lock. (c.requires.may.scripts.is_system.same lock lock).1 refl) g.row.READINGS g.row.HELD _ _ _
    c.args.predicted.now c.walk_by_steps.new.attempt _ _ c.walk_by_steps.result c.walk_by_steps.ensures in
    record {
      seen = seen;
      back =
          may_go_back g.S.Lock.PartialEq.eq g.S.Scripts.reply_of g.S.Scripts.effects_of (g.S.Scripts.system c.args.setting.now)
          (g.S.Scripts.ResumePointIsValid c.args.setting.now) c.args.predicted.now c.walk_by_steps.new.attempt c.walk_by_steps.result c.args._readings seen
          c.requires.readings c.requires.may.walk;
    }
