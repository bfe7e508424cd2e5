use Rattle.std.proofs.Common.{◌∙◌}
use Rattle.turns.specs.declared.{answer.Answer.TheVariants.Done, phase.Phase.TheVariants.{GivesBack, Operates, Withdraws}}
use Rattle.attempts.proofs.{Inside.phase_now, Applied.{not_done, operates_point, took}}
use Rattle.attempts.proofs.answering.apply_done.Goals as goal

pub returns-in-Withdraws : goal.returns-in-Withdraws
returns-in-Withdraws g c =
    took g.S.Lock.PartialEq.eq g.S.Scripts.reply_of g.S.Scripts.effects_of (g.S.Scripts.system c.args.setting.now)
    (g.S.Scripts.ResumePointIsValid c.args.setting.now) c.args.attempt.now c.give_back.new.attempt (Withdraws c.in-Withdraws.field-0) Done
    (phase_now _ c.args.attempt.now (Withdraws c.in-Withdraws.field-0) c.attempt.view_is c.in-Withdraws.is) tt (c.give_back.ensures.frees c.args.setting.now)
    (c.give_back.ensures.point c.args.setting.now) c.give_back.ensures.count

pub returns-in-GivesBack : goal.returns-in-GivesBack
returns-in-GivesBack g c =
    took g.S.Lock.PartialEq.eq g.S.Scripts.reply_of g.S.Scripts.effects_of (g.S.Scripts.system c.args.setting.now)
    (g.S.Scripts.ResumePointIsValid c.args.setting.now) c.args.attempt.now c.free_on.new.attempt GivesBack Done
    (phase_now _ c.args.attempt.now GivesBack c.attempt.view_is c.in-GivesBack.is) tt (c.free_on.ensures.frees c.args.setting.now)
    (c.free_on.ensures.point c.args.setting.now) c.free_on.ensures.count

pub returns-in-Operates : goal.returns-in-Operates
returns-in-Operates g c =
    took g.S.Lock.PartialEq.eq g.S.Scripts.reply_of g.S.Scripts.effects_of (g.S.Scripts.system c.args.setting.now)
    (g.S.Scripts.ResumePointIsValid c.args.setting.now) c.args.attempt.now c.operate.new.attempt (Operates c.in-Operates.field-0) Done
    (phase_now _ c.args.attempt.now (Operates c.in-Operates.field-0) c.attempt.view_is c.in-Operates.is) tt c.operate.ensures.operates
    (operates_point g.S.Lock.PartialEq.eq g.S.Scripts.reply_of g.S.Scripts.effects_of (g.S.Scripts.system c.args.setting.now)
    (g.S.Scripts.ResumePointIsValid c.args.setting.now) c.operate.new.attempt c.in-Operates.field-0
    (c.operate.ensures.phase ∙ (phase_now _ c.args.attempt.now (Operates c.in-Operates.field-0) c.attempt.view_is c.in-Operates.is))) c.operate.ensures.count

pub returns-in_default : goal.returns-in_default
returns-in_default g c =
    not_done g.S.Lock.PartialEq.eq g.S.Scripts.reply_of g.S.Scripts.effects_of (g.S.Scripts.system c.args.setting.now)
    (g.S.Scripts.ResumePointIsValid c.args.setting.now) _ c.args.attempt.now c.attempt.view_is c.requires.valid.point c.in_default.not-Withdraws
    c.in_default.not-GivesBack c.in_default.not-Operates

pub give_back-requires : goal.give_back-requires
give_back-requires g c = search

pub free_on-requires : goal.free_on-requires
free_on-requires g c = search

pub operate-requires : goal.operate-requires
operate-requires g c = search
