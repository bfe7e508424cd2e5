use Rattle.std.proofs.Common.{sym, ◌∙◌}
use Rattle.xbar_moves.proofs.Jobs.{given_is}
use Rattle.xbar_core.proofs.exchange.Exchange.given.Goals as goal

pub returns : goal.returns
returns c = c.given.ensures ∙ sym (given_is c.args.self.now.exchange c.args.marker c.marker.result.now c.marker.ensures.marker)
