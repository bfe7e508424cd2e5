use Rattle.std.proofs.Common.{◌≡◌, ℕ, true, false, length, take, get_or, nat_eq}
use Rattle.{std.specs.List.list_any, xbar_plan.specs.Lawful.are_distinct}
use Rattle.xbar_plan.proofs.lawful.distinct.first_repeat.Given as goal

-- the numbers so far are marked, and distinct
abbrev pub invariant-loop-item : goal.invariant-loop-item
invariant-loop-item l = record {
  size : length l.seen.items ≡ 65536;
  marks : (k : ℕ) → get_or l.seen.items k false ≡ list_any (λ n. nat_eq n k) (take l.item l.numbers);
  apart : are_distinct nat_eq (take l.item l.numbers) ≡ true;
}
