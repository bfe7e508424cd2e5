use Rattle.std.proofs.Common.{List, Option, ℕ, option_map, rules, subst}
use Rattle.crossbar5_cli.{specs.Printed.{IsPut, IsStderrText}, proofs.Saying.{all_said, text_behind}}
use Rattle.crossbar5_cli.proofs.printing.finish.Goals as goal

pub returns-then-are_lines_printed-clause-printed : goal.returns-then-are_lines_printed-clause-printed
returns-then-are_lines_printed-clause-printed g c is =
    subst (λ (known : Option (Option (List ℕ))). IsPut (IsStderrText c.args.ended.now.ending (option_map (λ lines. lines.items) c.args.ended.now.reasons) known)
    (g.E.Write.contents c.args.errors.now) (g.E.Write.contents c.print_sentence-is_sentence_printed.new.errors))
    (text_behind c.as_ref.result c.args.ended.now.sentence (search rules))
    (all_said _ _ _ _ _ _ (c.print_lines-are_lines_printed.ensures.printed (search rules))
    (c.print_sentence-is_sentence_printed.ensures.printed is))
