use Rattle.std.proofs.Common.{◌≡◌, ◌+◌, drop}
use Rattle.xbar_page.specs.Stays.{until}
use Rattle.xbar_page.proofs.stays.until.Given as goal

abbrev pub invariant-loop-place : goal.invariant-loop-place
invariant-loop-place l = until (l.turn + l.place) l.path (drop l.place l.later) ≡ until l.turn l.path l.later
