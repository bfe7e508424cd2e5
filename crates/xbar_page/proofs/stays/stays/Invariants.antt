use Rattle.std.proofs.Common.{◌≡◌, ◌++◌, drop}
use Rattle.xbar_page.specs.Stays.{stays, stays_from}
use Rattle.xbar_page.proofs.stays.stays.Given as goal

abbrev pub invariant-loop-turn : goal.invariant-loop-turn
invariant-loop-turn l = l.stays.items ++ stays_from l.turn l.before (drop l.turn l.sets) ≡ stays l.sets
