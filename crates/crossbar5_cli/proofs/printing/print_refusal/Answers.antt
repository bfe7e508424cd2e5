use Rattle.std.proofs.Common.{rules}
use Rattle.crossbar5_cli.proofs.Saying.{refusal_said}
use Rattle.crossbar5_cli.proofs.printing.print_refusal.Goals as goal

pub returns-then-is_text_printed-clause-printed : goal.returns-then-is_text_printed-clause-printed
returns-then-is_text_printed-clause-printed g c is =
    refusal_said _ _ _ _ _ _ (c.print_as_it_is-is_text_printed.ensures (search rules))
    (c.finish_printing-exit.ensures.printed is)
