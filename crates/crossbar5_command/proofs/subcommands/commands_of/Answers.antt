use Rattle.crossbar5_command.specs.{Program.shape_for, Table.named_subcommand}
use Rattle.crossbar5_command.proofs.{AddedSubcommands.{IsLocal, shape_alone}, MadeOfRows.{AreMade, all_made, none_made, one_tried}}
use Rattle.crossbar5_command.proofs.subcommands.commands_of.Goals as goal

pub loop-subcommand-init : goal.loop-subcommand-init
loop-subcommand-init c = rw c.new-all.ensures.items (none_made shape_alone (λ subcommand. shape_for (named_subcommand subcommand)) IsLocal)

pub loop-subcommand-preserved : goal.loop-subcommand-preserved
loop-subcommand-preserved c =
    one_tried shape_alone (λ subcommand. shape_for (named_subcommand subcommand)) IsLocal c.command.result c.args.subcommands.now
    c.loop-subcommand.subcommand-index _ c.loop-subcommand.all.items c.add.new.all.items
    c.loop-subcommand-test.true c.loop-subcommand.invariant c.in_ok-add.ensures c.command.ensures.shape c.command.ensures.local

made : (c : goal.After-loop-subcommand)
    → AreMade shape_alone (λ subcommand. shape_for (named_subcommand subcommand)) IsLocal c.args.subcommands.now c.loop-subcommand.all.items
made c =
    all_made shape_alone (λ subcommand. shape_for (named_subcommand subcommand)) IsLocal c.args.subcommands.now c.loop-subcommand.subcommand-index
    c.loop-subcommand.all.items c.loop-subcommand-test.false c.loop-subcommand.invariant

pub returns-clause-shapes : goal.returns-clause-shapes
returns-clause-shapes c = (made c).shapes

pub returns-clause-local : goal.returns-clause-local
returns-clause-local c = (made c).local
