use Rattle.std.proofs.Common.{◌≡◌, ◌≤◌, ℕ, true, nat_le, leb-true}
use Rattle.{xbar_equip.proofs.Logic.both, xbar_plan.specs.Lawful.is_between}

-- a number from `least` to `most`
pub between : (least most n : ℕ) → is_between least most n ≡ true → (least ≤ n) × (n ≤ most)
between least most n e = let x = both (nat_le least n) (nat_le n most) e in (leb-true least n x.0, leb-true n most x.1)
