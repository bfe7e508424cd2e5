use Rattle.{std.proofs.lemmas.Result.IfOk-weaker, crossbar5_command.proofs.AddedSubcommands.program_made}
use Rattle.crossbar5_command.proofs.program.program.Goals as goal

pub returns : goal.returns
returns c =
    let all = c.in_ok-subcommands.ensures in
    IfOk-weaker c.subcommands.result _ _
    (λ made. program_made c.unnamed.result made c.in_ok-subcommands.subcommands.items c.unnamed.ensures all.local all.shapes) c.subcommands.ensures
