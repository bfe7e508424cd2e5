use Rattle.std.proofs.Common.{sym, ◌∙◌, ap}
use Rattle.xbar_moves.specs.{Exchange.{Marker, at_marker}, Moves.frees_left_by}
use Rattle.xbar_core.proofs.exchange.Exchange.frees_left.Goals as goal

pub returns : goal.returns
returns c = c.frees_left.ensures ∙ sym (ap (at_marker 0 (λ (m : Marker). frees_left_by m.work)) c.marker.ensures.marker)
