use Rattle.std.proofs.Common.{take}
use Rattle.{clap.specs.Words.rule_of, crossbar5_command.{specs.{Program.rule_for, Table.named_option}, proofs.{AddedOptions.IsOwn, MadeOfRows.AreMade}}}
use Rattle.crossbar5_command.proofs.options.args_of.Given as goal

abbrev pub invariant-loop-option : goal.invariant-loop-option
invariant-loop-option l = AreMade rule_of (λ option. rule_for (named_option option)) IsOwn (take l.option-index l.options) l.args.items
