use Rattle.xbar_markers.proofs.WholeOutcome.{new_by_kind}
use Rattle.xbar_markers.proofs.opening.open_desks.Goals as goal

pub returns-clause-by_kind : goal.returns-clause-by_kind
returns-clause-by_kind c =
    new_by_kind c.in_ok-opened.opened.0 c.args.markers.now.dialling c.args.markers.now.completing c.in_ok-opened.opened.1.items c.kinds.result.now
    c.in_ok-opened.ensures.desks c.kinds.ensures.kinds c.kinds.ensures.valid.0 c.kinds.ensures.valid.1
