use Rattle.std.proofs.Common.{◌≡◌, ℕ, ◌<◌, length, take, get_or, ◌==◌, None, position}
use Rattle.xbar_plan.proofs.numbers.first_places.Given as goal

-- the first index of each number among those so far
abbrev pub invariant-loop-place : goal.invariant-loop-place
invariant-loop-place l = record {
  size : length l.places.items ≡ l.count;
  first : (k : ℕ) → k < l.count → get_or l.places.items k None ≡ position (λ n. n == k) (take l.place l.numbers);
}
