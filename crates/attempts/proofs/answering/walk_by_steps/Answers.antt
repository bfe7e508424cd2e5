use Rattle.std.proofs.Common.{arith, ap}
use Rattle.attempts.{specs.WalkOnWords.WalkState, proofs.Applied.{able, walks_by_steps}}
use Rattle.attempts.proofs.answering.walk_by_steps.Goals as goal

pub walk_by-found-requires : goal.walk_by-found-requires
walk_by-found-requires g c =
    let can =
    able g.S.Lock.PartialEq.eq g.S.Scripts.reply_of g.S.Scripts.effects_of (g.S.Scripts.system c.args.setting.now)
    (g.S.Scripts.ResumePointIsValid c.args.setting.now) c.args.attempt.now _ c.allow.new.self c.attempt.view_is
    (ap (λ (x : WalkState _). x.seen) c.allow.ensures) c.requires.walk in
    (grind arith, record { setting = c.requires.setting; right = can.job; read = can.read; valid_point = can.valid_point })

pub returns : goal.returns
returns g c =
    walks_by_steps g.S.Lock.PartialEq.eq g.S.Scripts.reply_of g.S.Scripts.effects_of (g.S.Scripts.system c.args.setting.now)
    (g.S.Scripts.ResumePointIsValid c.args.setting.now) g.row.READINGS g.row.HELD c.args.left.now c.args.held_word c.args.words.now c.walk_by-found.new.words
    c.walk_by-found.result c.args.attempt.now _ c.allow.new.self c.walk_by-found.new.seen c.walk_by-found.new.point c.left.result c.attempt.view_is
    c.allow.ensures c.left.ensures c.walk_by-found.ensures.walk c.walk_by-found.ensures.valid_point
