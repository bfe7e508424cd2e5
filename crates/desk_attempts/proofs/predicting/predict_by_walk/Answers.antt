use Rattle.std.proofs.Common.{sym, ◌∙◌}
use Rattle.desk_attempts.proofs.SnapshotWalks.{goes_back, looks_ahead, looks_back}
use Rattle.desk_attempts.proofs.predicting.predict_by_walk.Goals as goal

pub counts-locks_after-requires : goal.counts-locks_after-requires
counts-locks_after-requires g c = search

pub continue_with-requires : goal.continue_with-requires
continue_with-requires g c = search

pub returns-then-locks_after-locks : goal.returns-then-locks_after-locks
returns-then-locks_after-locks g c =
    looks_ahead g.S.Lock.PartialEq.eq g.S.Scripts.reply_of g.S.Scripts.effects_of (g.S.Scripts.system c.args.setting.now)
    (g.S.Scripts.ResumePointIsValid c.args.setting.now) c.args.predicted.now c.walk_snapshot-found.new.predicted c.walk_snapshot-found.result
    c.counts-readings.result.0 c.counts-readings.result.1 c.walk_snapshot-found.ensures.seen c.counts-readings.ensures.readings c.counts-readings.ensures.locks
    c.continue_with.new.self (sym c.counts-locks_after.ensures.locks ∙ c.if-locks_after-locks.true) c.requires.undecided c.continue_with.ensures

pub returns-else-locks_after-locks : goal.returns-else-locks_after-locks
returns-else-locks_after-locks g c =
    looks_back g.S.Lock.PartialEq.eq g.S.Scripts.reply_of g.S.Scripts.effects_of (g.S.Scripts.system c.args.setting.now)
    (g.S.Scripts.ResumePointIsValid c.args.setting.now) c.args.predicted.now c.roll_back.new.predicted c.walk_on.new.attempt c.roll_back.new.predicted.point
    (goes_back g.S.Lock.PartialEq.eq g.S.Scripts.reply_of g.S.Scripts.effects_of (g.S.Scripts.system c.args.setting.now)
    (g.S.Scripts.ResumePointIsValid c.args.setting.now) c.args.predicted.now c.walk_snapshot-found.new.predicted c.walk_snapshot-found.result
    c.counts-readings.result.0 c.counts-readings.result.1 c.walk_snapshot-found.ensures.seen c.counts-readings.ensures.readings c.counts-readings.ensures.locks
    c.roll_back.new.predicted c.roll_back.new.predicted.point c.roll_back.ensures.back) c.walk_on.ensures
