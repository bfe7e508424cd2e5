use Rattle.{std.proofs.lemmas.Result.IfOk-weaker, crossbar5_command.proofs.AddedOptions.{command_made, stays_local}}
use Rattle.crossbar5_command.proofs.subcommands.Subcommand.command.Goals as goal

pub returns-clause-shape : goal.returns-clause-shape
returns-clause-shape c =
    IfOk-weaker c.args-2.result _ _ (λ made.
    command_made c.args.self.now c.described.result made c.in_ok-args.args.items c.described.ensures.shape c.in_ok-args.ensures.local
    c.in_ok-args.ensures.rules) c.args-2.ensures

pub returns-clause-local : goal.returns-clause-local
returns-clause-local c =
    IfOk-weaker c.args-2.result _ _ (λ made. stays_local c.described.result made c.in_ok-args.args.items c.in_ok-args.ensures.local c.described.ensures.local)
    c.args-2.ensures
