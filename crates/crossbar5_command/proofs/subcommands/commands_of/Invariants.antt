use Rattle.std.proofs.Common.{take}
use Rattle.crossbar5_command.{specs.{Program.shape_for, Table.named_subcommand}, proofs.{AddedSubcommands.{IsLocal, shape_alone}, MadeOfRows.AreMade}}
use Rattle.crossbar5_command.proofs.subcommands.commands_of.Given as goal

abbrev pub invariant-loop-subcommand : goal.invariant-loop-subcommand
invariant-loop-subcommand l =
    AreMade shape_alone (λ subcommand. shape_for (named_subcommand subcommand)) IsLocal (take l.subcommand-index l.subcommands) l.all.items
