use Rattle.std.proofs.Common.{arith, length, ap, length-take}
use Rattle.xbar_office.proofs.cards.Cards.copy.Goals as goal

pub push-requires : goal.push-requires
push-requires c = omega (arith, ap length c.loop-card.invariant, length-take c.loop-card.card-index c.as_slice-all.result.now)
