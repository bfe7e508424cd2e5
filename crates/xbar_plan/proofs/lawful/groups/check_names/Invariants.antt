use Rattle.std.proofs.Common.{◌≡◌, map, take, bytes_eq, true}
use Rattle.xbar_plan.specs.Lawful.{are_distinct as are_apart}
use Rattle.xbar_plan.proofs.lawful.groups.check_names.Given as goal

-- the names so far are distinct
abbrev pub invariant-loop-item : goal.invariant-loop-item
invariant-loop-item l = are_apart bytes_eq (take l.item (map (λ group. group.name) l.groups)) ≡ true
