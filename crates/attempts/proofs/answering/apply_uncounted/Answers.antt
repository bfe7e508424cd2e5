use Rattle.std.proofs.Common.{sym, subst}
use Rattle.{turns.specs.declared.answer.Answer.Answer, attempts.specs.Applied.Applies}
use Rattle.attempts.proofs.answering.apply_uncounted.Goals as goal

pub returns-in-Asked : goal.returns-in-Asked
returns-in-Asked g c =
    subst (λ (answer : Answer). Applies g.S.Lock.PartialEq.eq g.S.Scripts.reply_of g.S.Scripts.effects_of (g.S.Scripts.system c.args.setting.now)
    (g.S.Scripts.ResumePointIsValid c.args.setting.now) answer c.args.attempt.now c.apply_requested.new.attempt) (sym c.in-Asked.is) c.apply_requested.ensures

pub returns-in-Again : goal.returns-in-Again
returns-in-Again g c =
    subst (λ (answer : Answer). Applies g.S.Lock.PartialEq.eq g.S.Scripts.reply_of g.S.Scripts.effects_of (g.S.Scripts.system c.args.setting.now)
    (g.S.Scripts.ResumePointIsValid c.args.setting.now) answer c.args.attempt.now c.apply_changed.new.attempt) (sym c.in-Again.is) c.apply_changed.ensures

pub returns-in-Held : goal.returns-in-Held
returns-in-Held g c =
    subst (λ (answer : Answer). Applies g.S.Lock.PartialEq.eq g.S.Scripts.reply_of g.S.Scripts.effects_of (g.S.Scripts.system c.args.setting.now)
    (g.S.Scripts.ResumePointIsValid c.args.setting.now) answer c.args.attempt.now c.apply_denied.new.attempt) (sym c.in-Held.is)
    (c.apply_denied.ensures.held c.in-Held.field-0)

pub returns-in-Preferred : goal.returns-in-Preferred
returns-in-Preferred g c =
    subst (λ (answer : Answer). Applies g.S.Lock.PartialEq.eq g.S.Scripts.reply_of g.S.Scripts.effects_of (g.S.Scripts.system c.args.setting.now)
    (g.S.Scripts.ResumePointIsValid c.args.setting.now) answer c.args.attempt.now c.apply_denied-in-Preferred.new.attempt) (sym c.in-Preferred.is)
    (c.apply_denied-in-Preferred.ensures.preferred c.in-Preferred.field-0)

pub returns-in-Seized : goal.returns-in-Seized
returns-in-Seized g c =
    subst (λ (answer : Answer). Applies g.S.Lock.PartialEq.eq g.S.Scripts.reply_of g.S.Scripts.effects_of (g.S.Scripts.system c.args.setting.now)
    (g.S.Scripts.ResumePointIsValid c.args.setting.now) answer c.args.attempt.now c.apply_seized.new.attempt) (sym c.in-Seized.is) c.apply_seized.ensures

pub returns-in-Value : goal.returns-in-Value
returns-in-Value g c =
    subst (λ (answer : Answer). Applies g.S.Lock.PartialEq.eq g.S.Scripts.reply_of g.S.Scripts.effects_of (g.S.Scripts.system c.args.setting.now)
    (g.S.Scripts.ResumePointIsValid c.args.setting.now) answer c.args.attempt.now c.apply_value.new.attempt) (sym c.in-Value.is) c.apply_value.ensures

pub returns-in-Turn : goal.returns-in-Turn
returns-in-Turn g c =
    subst (λ (answer : Answer). Applies g.S.Lock.PartialEq.eq g.S.Scripts.reply_of g.S.Scripts.effects_of (g.S.Scripts.system c.args.setting.now)
    (g.S.Scripts.ResumePointIsValid c.args.setting.now) answer c.args.attempt.now c.apply_turn.new.attempt) (sym c.in-Turn.is) c.apply_turn.ensures

pub returns-in-Done : goal.returns-in-Done
returns-in-Done g c =
    subst (λ (answer : Answer). Applies g.S.Lock.PartialEq.eq g.S.Scripts.reply_of g.S.Scripts.effects_of (g.S.Scripts.system c.args.setting.now)
    (g.S.Scripts.ResumePointIsValid c.args.setting.now) answer c.args.attempt.now c.apply_done.new.attempt) (sym c.in-Done.is) c.apply_done.ensures
