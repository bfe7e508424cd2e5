use Rattle.{std.proofs.lemmas.Result.IfOk-weaker, xbar_markers.proofs.DesksByKindAgain.{idle_again, by_kind_again}}
use Rattle.xbar_markers.proofs.running.run_desks.Goals as goal

pub returns-clause-by_kind : goal.returns-clause-by_kind
returns-clause-by_kind g c =
    IfOk-weaker c.run_on.result _ _
    (λ ran worked. by_kind_again c.args.fabric.now c.args.desks.items ran.0.items ran.1.items worked c.requires.desks) c.run_on.ensures.desks

pub returns-clause-idle : goal.returns-clause-idle
returns-clause-idle g c =
    IfOk-weaker c.run_on.result _ _
    (λ ran worked. idle_again c.args.fabric.now c.args.desks.items ran.0.items ran.1.items worked) c.run_on.ensures.desks
