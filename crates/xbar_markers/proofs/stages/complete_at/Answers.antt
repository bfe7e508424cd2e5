use Rattle.{xbar_moves.specs.declared.kinds.Kind.TheVariants.Completing, xbar_markers.proofs.Stayed.seat_stayed}
use Rattle.xbar_markers.proofs.stages.complete_at.Goals as goal

pub returns : goal.returns
returns g c =
    let done = c.in_ok-complete_all.ensures in
    seat_stayed Completing c.args.fabric.now c.args.queues.now c.args.state _ c.requires.state
    done.ready done.kind done.tickets done.served
