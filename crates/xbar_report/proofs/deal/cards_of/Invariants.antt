use Rattle.std.proofs.Common.{◌≡◌, map, take}
use Rattle.xbar_report.proofs.deal.cards_of.Given as goal

abbrev pub invariant-loop-trouble : goal.invariant-loop-trouble
invariant-loop-trouble l = l.cards ≡ map (λ t. t.card) (take l.trouble-index l.own)
