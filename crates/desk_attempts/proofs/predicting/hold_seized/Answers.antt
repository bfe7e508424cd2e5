use Rattle.std.proofs.Common.{ap}
use Rattle.desk_attempts.{specs.Speculation.Speculation, proofs.SnapshotWalks.may_look}
use Rattle.desk_attempts.proofs.predicting.hold_seized.Goals as goal

pub returns-clause-look : goal.returns-clause-look
returns-clause-look g c =
    may_look g.S.Lock.PartialEq.eq g.S.Scripts.reply_of g.S.Scripts.effects_of (g.S.Scripts.system c.args.setting.now)
    (g.S.Scripts.ResumePointIsValid c.args.setting.now) g.row.READINGS g.row.HELD c.requires.scripts c.args.program.now c.hold.new.self.predicted c.args.lock _
    _ c.requires.setting c.requires.walk c.requires.undecided (ap (λ (p : Speculation _ _ _ _). p.predicted) c.hold.ensures)
