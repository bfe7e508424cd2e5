use Rattle.std.proofs.Common.{subst, sym}
use Rattle.crossbar5_c.specs.Answer.{IsAnswer}
use Rattle.crossbar5_c.proofs.crossbar5_answer.Goals as goal

pub returns : goal.returns
returns c =
    let text = c.answer_call.result.text.items in (
      text,
      subst (IsAnswer c.args.task c.args.kinds.now c.args.plan.now c.args.input.now text) (sym c.give.ensures.status) c.answer_call.ensures,
      c.give.ensures.given,
    )
