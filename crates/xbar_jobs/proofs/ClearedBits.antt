-- the bits of a word once one of them is cleared
use Rattle.std.proofs.Common.{◌≡◌, ◌≢◌, ℕ, ◌-◌, ◌^◌, ◌<◌, ◌≤◌, ◌∙◌, ap, arith, bit_and, pow_mono, min, w64}
use Rattle.std.{specs.Int.bit_at, proofs.lemmas.Nat.Bits.{bit_at_above, bit_at_and, bit_at-lt, bit_at_not, bit_at-pow_other, bit_at-pow_same}}

mask_fits : (k : ℕ) → k < 64 → 2 ^ k < 2 ^ 64
mask_fits k few = let most : 2 ^ k ≤ 2 ^ 63 = pow_mono {i = k} {j = 63} (omega arith) in omega arith

cleared_bit : (word k i : ℕ) → k < 64 → i < 64 → bit_at (bit_and word (2 ^ 64 - 1 - 2 ^ k)) i ≡ min (bit_at word i) (1 - bit_at (2 ^ k) i)
cleared_bit word k i few below = bit_at_and word (2 ^ 64 - 1 - 2 ^ k) i ∙ ap (min (bit_at word i)) (bit_at_not w64 (2 ^ k) i (mask_fits k few) below)

-- a bit that was cleared is 0
pub bit-cleared : (word k : ℕ) → k < 64 → bit_at (bit_and word (2 ^ 64 - 1 - 2 ^ k)) k ≡ 0
bit-cleared word k few = omega (arith, cleared_bit word k k few few, bit_at-pow_same k)

-- the others of the lowest 64 are as they were
pub bit-uncleared : (word k i : ℕ) → k < 64 → i < 64 → i ≢ k → bit_at (bit_and word (2 ^ 64 - 1 - 2 ^ k)) i ≡ bit_at word i
bit-uncleared word k i few below other = omega (arith, cleared_bit word k i few below, bit_at-pow_other k i other, bit_at-lt word i)

-- and no bit from 64 on is set
pub bit-past : (word k i : ℕ) → 64 ≤ i → bit_at (bit_and word (2 ^ 64 - 1 - 2 ^ k)) i ≡ 0
bit-past word k i past =
    let high : bit_at (2 ^ 64 - 1 - 2 ^ k) i ≡ 0 = bit_at_above (2 ^ 64 - 1 - 2 ^ k) 64 i (omega arith) past in
    omega (arith, bit_at_and word (2 ^ 64 - 1 - 2 ^ k) i)
