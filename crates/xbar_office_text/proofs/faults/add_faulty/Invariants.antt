use Rattle.std.proofs.Common.{◌≡◌, ◌++◌, filter, map}
use Rattle.{std.specs.List.range_with_len, xbar_plan.specs.Tables.is_faulty, xbar_office_text.specs.Faults.link_numbered}
use Rattle.xbar_office_text.proofs.faults.add_faulty.Given as goal

abbrev pub invariant-loop-number : goal.invariant-loop-number
invariant-loop-number l = l.links.items ≡ l.initial.links.items ++ filter (is_faulty l.plan) (map (link_numbered l.kind) (range_with_len 0 l.number))
