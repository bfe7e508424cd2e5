use Rattle.std.proofs.Common.{arith, ap}
use Rattle.attempts.{specs.Validity.AttemptView, proofs.OneStep.{answered, answers_so, stepped_is, word_there}}
use Rattle.attempts.proofs.running.step.Goals as goal

pub offset_bounds-words-place : goal.offset_bounds-words-place
offset_bounds-words-place g c =
    let there =
    word_there g.S.Lock.PartialEq.eq g.S.Scripts.reply_of g.S.Scripts.effects_of (g.S.Scripts.system c.args.setting.now)
    (g.S.Scripts.ResumePointIsValid c.args.setting.now) _ _ c.requires.scripts c.args.attempt.now
    c.next-act.result c.step_word-place.result c.args.words.now c.requires.valid c.next-act.ensures c.step_word-place.ensures c.requires.words in
    omega (arith, there, c.well_formed)

pub bounds-words-place : goal.bounds-words-place
bounds-words-place g c =
    word_there g.S.Lock.PartialEq.eq g.S.Scripts.reply_of g.S.Scripts.effects_of (g.S.Scripts.system c.args.setting.now)
    (g.S.Scripts.ResumePointIsValid c.args.setting.now) _ _ c.requires.scripts c.args.attempt.now
    c.next-act.result c.step_word-place.result c.args.words.now c.requires.valid c.next-act.ensures c.step_word-place.ensures c.requires.words

pub offset_bounds-words-place-2 : goal.offset_bounds-words-place-2
offset_bounds-words-place-2 g c =
    let there =
    word_there g.S.Lock.PartialEq.eq g.S.Scripts.reply_of g.S.Scripts.effects_of (g.S.Scripts.system c.args.setting.now)
    (g.S.Scripts.ResumePointIsValid c.args.setting.now) _ _ c.requires.scripts c.args.attempt.now
    c.next-act.result c.step_word-place.result c.args.words.now c.requires.valid c.next-act.ensures c.step_word-place.ensures c.requires.words in
    omega (arith, there, c.well_formed)

pub bounds-words-place-2 : goal.bounds-words-place-2
bounds-words-place-2 g c =
    word_there g.S.Lock.PartialEq.eq g.S.Scripts.reply_of g.S.Scripts.effects_of (g.S.Scripts.system c.args.setting.now)
    (g.S.Scripts.ResumePointIsValid c.args.setting.now) _ _ c.requires.scripts c.args.attempt.now
    c.next-act.result c.step_word-place.result c.args.words.now c.requires.valid c.next-act.ensures c.step_word-place.ensures c.requires.words

pub apply-requires-2 : goal.apply-requires-2
apply-requires-2 g c = (search, (c.requires.setting, (c.requires.scripts, c.requires.valid)))

pub returns-clause-answer : goal.returns-clause-answer
returns-clause-answer g c =
    answered g.S.Lock.PartialEq.eq g.S.Scripts.reply_of g.S.Scripts.effects_of (g.S.Scripts.system c.args.setting.now) c.args.actor c.args.attempt.now
    c.next-act.result c.step_word-place.result c.args.words.now c.next-act.ensures c.step_word-place.ensures _ _ _ c.sharing.ensures
    (ap (λ (p : AttemptView _ _ _ _). p.phase) c.attempt.view_is) c.step_answer-answer.ensures

pub returns-clause-steps : goal.returns-clause-steps
returns-clause-steps g c =
    stepped_is g.S.Lock.PartialEq.eq g.S.Scripts.reply_of g.S.Scripts.effects_of (g.S.Scripts.system c.args.setting.now) c.args.actor c.args.attempt.now
    c.next-act.result c.step_word-place.result c.args.words.now c.next-act.ensures c.step_word-place.ensures c.apply-2.new.attempt c.step_operation.result
    c.apply.result c.step_answer-answer.result c.step_operation.ensures c.apply.ensures (returns-clause-answer g c) c.apply-2.ensures.change

pub returns-clause-kind : goal.returns-clause-kind
returns-clause-kind g c =
    answers_so g.S.Lock.PartialEq.eq g.S.Scripts.reply_of g.S.Scripts.effects_of (g.S.Scripts.system c.args.setting.now) c.args.actor c.args.attempt.now
    c.next-act.result c.step_word-place.result c.args.words.now c.next-act.ensures c.step_word-place.ensures _ (returns-clause-answer g c) c.are_words.ensures
