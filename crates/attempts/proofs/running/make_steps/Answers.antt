use Rattle.std.proofs.Common.{arith, ℕ, ◌<◌, ◌^◌, refl, subst}
use Rattle.attempts.{specs.{Running.WalksBySteps, SystemWith.system_with}, proofs.WalkRuns.{left_fits, made_none, runs_on, seized_word_is}}
use Rattle.attempts.proofs.running.make_steps.Goals as goal

pub returns-in_default : goal.returns-in_default
returns-in_default g c = record {
  fits = omega arith;
  steps = made_none (system_with g.S.Lock.PartialEq.eq g.S.Scripts.reply_of g.S.Scripts.effects_of (g.S.Scripts.system c.args.setting.now)) c.args.actor _;
  valid = c.requires.may.valid;
  far = c.in_default.ensures.none (g.S.Scripts.system c.args.setting.now).lock_word c.args.words.now c.args.most;
  count = refl;
}

pub continue_with-requires : goal.continue_with-requires
continue_with-requires g c = search

pub overflow_sub-result : goal.overflow_sub-result
overflow_sub-result g c =
    left_fits g.S.Lock.PartialEq.eq g.S.Scripts.reply_of g.S.Scripts.effects_of (g.S.Scripts.system c.args.setting.now)
    (g.S.Scripts.ResumePointIsValid c.args.setting.now) g.row.READINGS g.row.HELD c.requires.may.scripts c.requires.sharing c.args.actor c.requires.actor
    c.args.attempt.now c.requires.may.valid c.in-Some.ensures.wants c.args.most c.args.words.now c.walk_by_steps-found.new.words c.are_words.ensures
    (subst (λ (held_word : ℕ). held_word
    < 2 ^ 64) (seized_word_is g.S.Lock.PartialEq.eq g.S.Scripts.reply_of g.S.Scripts.effects_of (g.S.Scripts.system c.args.setting.now)
    (g.S.Scripts.ResumePointIsValid c.args.setting.now) g.row.READINGS g.row.HELD c.requires.may.scripts c.requires.sharing c.args.actor c.requires.actor
    c.seized_word-word.result c.seized_word-word.ensures) c.seized_word-word.type_inv) c.walk_by_steps-found.result c.walk_by_steps-found.new.attempt
    c.walk_by_steps-found.new.left (subst (λ (held_word : ℕ). WalksBySteps g.S.Lock.PartialEq.eq (g.S.Scripts.system c.args.setting.now)
    (g.S.Scripts.ResumePointIsValid c.args.setting.now) g.row.READINGS g.row.HELD c.args.most held_word c.args.attempt.now c.args.words.now
    c.walk_by_steps-found.new.attempt c.walk_by_steps-found.new.words c.walk_by_steps-found.result c.walk_by_steps-found.new.left)
    (seized_word_is g.S.Lock.PartialEq.eq g.S.Scripts.reply_of g.S.Scripts.effects_of (g.S.Scripts.system c.args.setting.now)
    (g.S.Scripts.ResumePointIsValid c.args.setting.now) g.row.READINGS g.row.HELD c.requires.may.scripts c.requires.sharing c.args.actor c.requires.actor
    c.seized_word-word.result c.seized_word-word.ensures) c.walk_by_steps-found.ensures)

pub returns : goal.returns
returns g c =
    runs_on g.S.Lock.PartialEq.eq g.S.Scripts.reply_of g.S.Scripts.effects_of (g.S.Scripts.system c.args.setting.now)
    (g.S.Scripts.ResumePointIsValid c.args.setting.now) g.row.READINGS g.row.HELD c.requires.may.scripts c.requires.sharing c.args.actor c.requires.actor
    c.args.attempt.now c.requires.may.valid c.in-Some.ensures.wants c.args.most c.args.words.now c.walk_by_steps-found.new.words c.are_words.ensures
    (subst (λ (held_word : ℕ). held_word
    < 2 ^ 64) (seized_word_is g.S.Lock.PartialEq.eq g.S.Scripts.reply_of g.S.Scripts.effects_of (g.S.Scripts.system c.args.setting.now)
    (g.S.Scripts.ResumePointIsValid c.args.setting.now) g.row.READINGS g.row.HELD c.requires.may.scripts c.requires.sharing c.args.actor c.requires.actor
    c.seized_word-word.result c.seized_word-word.ensures) c.seized_word-word.type_inv) c.walk_by_steps-found.result c.walk_by_steps-found.new.attempt
    c.walk_by_steps-found.new.left (subst (λ (held_word : ℕ). WalksBySteps g.S.Lock.PartialEq.eq (g.S.Scripts.system c.args.setting.now)
    (g.S.Scripts.ResumePointIsValid c.args.setting.now) g.row.READINGS g.row.HELD c.args.most held_word c.args.attempt.now c.args.words.now
    c.walk_by_steps-found.new.attempt c.walk_by_steps-found.new.words c.walk_by_steps-found.result c.walk_by_steps-found.new.left)
    (seized_word_is g.S.Lock.PartialEq.eq g.S.Scripts.reply_of g.S.Scripts.effects_of (g.S.Scripts.system c.args.setting.now)
    (g.S.Scripts.ResumePointIsValid c.args.setting.now) g.row.READINGS g.row.HELD c.requires.may.scripts c.requires.sharing c.args.actor c.requires.actor
    c.seized_word-word.result c.seized_word-word.ensures) c.walk_by_steps-found.ensures) c.continue_with.new.self c.continue_with.ensures
