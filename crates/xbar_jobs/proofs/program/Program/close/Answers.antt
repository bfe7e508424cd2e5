use Rattle.std.proofs.Common.{◌<◌, ◌∙◌, ◌^◌, subst, sym}
use Rattle.xbar_jobs.proofs.PastTurn.{closed_more, closed_none}
use Rattle.xbar_jobs.proofs.program.Program.close.Goals as goal

pub loop-made-init : goal.loop-made-init
loop-made-init c =
    closed_none c.args.plan.now c.args.marker c.args.most c.args.self.now c.args.words.now
    (subst (λ n. n < 2 ^ 32) c.count-count.ensures c.count-count.type_inv) c.requires.plan c.requires.turned c.requires.words

pub loop-made-preserved : goal.loop-made-preserved
loop-made-preserved c =
    closed_more c.args.plan.now c.args.marker c.args.most c.loop-made.made c.args.self.now c.loop-made.self c.step.new.self c.args.words.now
    c.loop-made.words c.step.new.words c.step.result c.loop-made.invariant c.loop-made-test.true
    (subst (λ n. n < 2 ^ 32) c.count-count.ensures c.count-count.type_inv) (sym c.is_done.ensures ∙ c.if-not-is_done.true) c.step.ensures.answer c.step.ensures.change c.step.ensures.words
    c.step.ensures.plan c.step.auto.words
