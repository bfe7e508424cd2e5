use Rattle.std.proofs.Common.{◌∙◌, ap, refl, sym}
use Rattle.attempts.{specs.Applied.continued, proofs.Applied.walked}
use Rattle.attempts.proofs.answering.walk_on.Goals as goal

pub returns-in-Ok : goal.returns-in-Ok
returns-in-Ok g c =
    walked g.S.Lock.PartialEq.eq g.S.Scripts.reply_of g.S.Scripts.effects_of (g.S.Scripts.system c.args.setting.now)
    (g.S.Scripts.ResumePointIsValid c.args.setting.now) g.row.READINGS g.row.HELD _ _ _ _ _ c.args.attempt.now c.walk_by_steps.new.attempt _
    c.walk_by_steps.ensures refl c.decide.new.self (c.decide.ensures ∙ ap (continued c.walk_by_steps.new.attempt) (sym c.in-Ok.is))

pub returns-in-Err : goal.returns-in-Err
returns-in-Err g c =
    walked g.S.Lock.PartialEq.eq g.S.Scripts.reply_of g.S.Scripts.effects_of (g.S.Scripts.system c.args.setting.now)
    (g.S.Scripts.ResumePointIsValid c.args.setting.now) g.row.READINGS g.row.HELD _ _ _ _ _ c.args.attempt.now c.walk_by_steps.new.attempt _
    c.walk_by_steps.ensures refl c.want.new.self (c.want.ensures ∙ ap (continued c.walk_by_steps.new.attempt) (sym c.in-Err.is))

pub decide-requires : goal.decide-requires
decide-requires g c = search

pub want-requires : goal.want-requires
want-requires g c = search
