use Rattle.{clap.specs.Words.rule_of, crossbar5_command.specs.{Program.rule_for, Table.named_option}}
use Rattle.crossbar5_command.proofs.{AddedOptions.IsOwn, MadeOfRows.{AreMade, all_made, none_made, one_more}}
use Rattle.crossbar5_command.proofs.options.args_of.Goals as goal

pub loop-option-init : goal.loop-option-init
loop-option-init c = rw c.new-args.ensures.items (none_made rule_of (λ option. rule_for (named_option option)) IsOwn)

pub loop-option-preserved : goal.loop-option-preserved
loop-option-preserved c =
    one_more rule_of (λ option. rule_for (named_option option)) IsOwn c.args.options.now c.loop-option.option-index _ c.arg.result c.loop-option.args.items
    c.put.new.all.items
    c.loop-option-test.true c.loop-option.invariant c.in_ok-put.ensures c.arg.ensures.rule c.arg.ensures.local

made : (c : goal.After-loop-option) → AreMade rule_of (λ option. rule_for (named_option option)) IsOwn c.args.options.now c.loop-option.args.items
made c =
    all_made rule_of (λ option. rule_for (named_option option)) IsOwn c.args.options.now c.loop-option.option-index c.loop-option.args.items
    c.loop-option-test.false c.loop-option.invariant

pub returns-clause-rules : goal.returns-clause-rules
returns-clause-rules c = (made c).shapes

pub returns-clause-local : goal.returns-clause-local
returns-clause-local c = (made c).local
