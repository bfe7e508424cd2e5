use Rattle.std.proofs.Common.{◌≡◌, ◌++◌, map, take, filter, not}
use Rattle.xbar_page.specs.Stays.{has_path, stay_from}
use Rattle.xbar_page.proofs.stays.add_stays_from.Given as goal

abbrev pub invariant-loop-path : goal.invariant-loop-path
invariant-loop-path l =
    l.stays.items ≡ l.initial.stays.items ++ map (stay_from l.turn l.later) (filter (λ path. not (has_path path l.before)) (take l.path-index l.now))
