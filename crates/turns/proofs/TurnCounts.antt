-- what the turn word and the numbers of turns may be
use Rattle.std.proofs.Common.{◌≡◌, ℕ, suc, ◌+◌, ◌≤◌, ◌%◌, ◌^◌, ap, ◌∙◌, arith}
use Rattle.turns.specs.{Operations.{applied, FitsWord}, Clock.{turning, IsCount, IsCounted}, declared.clock.Clock.{Clock, TheVariants.{Counted, Ghost}}}
use Rattle.turns.proofs.Orders.{turn_more}

pub turning_fits : (c : Clock) → FitsWord (turning c)
turning_fits Counted = tt
turning_fits Ghost = tt

pub count_none : (c : Clock) (number : ℕ) → number ≡ 0 → IsCount c number 0
count_none Counted number e = e
count_none Ghost number e = e

pub count_more : (c : Clock) (number count : ℕ) → IsCount c number count → IsCount c (applied (turning c) number) (suc count)
count_more Counted number count is = ap (λ (n : ℕ). (n + 1) % 2 ^ 64) is ∙ turn_more count
count_more Ghost number count is = is

pub count_is : (c : Clock) (number count : ℕ) → IsCounted c → IsCount c number count → number ≡ count % 2 ^ 64
count_is Counted number count counted is = is
count_is Ghost number count counted is = absurd counted

pub count_below : (c : Clock) (number count : ℕ) → IsCount c number count → number ≤ count
count_below Counted number count is = let small : count % 2 ^ 64 ≤ count = omega arith in omega (arith, is, small)
count_below Ghost number count is = omega (arith, is)
