-- the word of a connector that no marker holds or requests is 0
use Rattle.std.proofs.Common.{◌≡◌, ℕ, zero, suc, ◌+◌, ◌-◌, ◌/◌, ◌%◌, ◌<◌, ◌≤◌, inl, inr, false, ◌∙◌, ap, subst, arith, eq-zero-or-pos, ◌==◌, w64}
use Rattle.std.{specs.Int.{bit_at, trailing_zeros}, proofs.lemmas.Nat.Bits.{bit_at-suc, bit_at-trailing_zeros, bit_at_lowest}}
use Rattle.turns.specs.{Sharing.IsUnused, Sharings.preferring}

-- with no holder, none of the lowest six bits is set
holder_bit : (word i : ℕ) → word % 64 ≡ 0 → i < 6 → bit_at word i ≡ 0
holder_bit word zero free below = omega (arith, bit_at_lowest word, free)
holder_bit word (suc zero) free below = bit_at-suc word 0 ∙ omega (arith, bit_at_lowest (word / 2), free)
holder_bit word (suc (suc zero)) free below = bit_at-suc word 1 ∙ bit_at-suc (word / 2) 0 ∙ omega (arith, bit_at_lowest (word / 2 / 2), free)
holder_bit word (suc (suc (suc zero))) free below =
    bit_at-suc word 2 ∙ bit_at-suc (word / 2) 1 ∙ bit_at-suc (word / 2 / 2) 0 ∙ omega (arith, bit_at_lowest (word / 2 / 2 / 2), free)
holder_bit word (suc (suc (suc (suc zero)))) free below =
    bit_at-suc word 3 ∙ bit_at-suc (word / 2) 2 ∙ bit_at-suc (word / 2 / 2) 1 ∙ bit_at-suc (word / 2 / 2 / 2) 0
    ∙ omega (arith, bit_at_lowest (word / 2 / 2 / 2 / 2), free)
holder_bit word (suc (suc (suc (suc (suc zero))))) free below =
    bit_at-suc word 4 ∙ bit_at-suc (word / 2) 3 ∙ bit_at-suc (word / 2 / 2) 2 ∙ bit_at-suc (word / 2 / 2 / 2) 1 ∙ bit_at-suc (word / 2 / 2 / 2 / 2) 0
    ∙ omega (arith, bit_at_lowest (word / 2 / 2 / 2 / 2 / 2), free)
holder_bit word (suc (suc (suc (suc (suc (suc i)))))) free below = absurd (omega (arith, below))

pub unused_word : (word : ℕ) → IsUnused preferring word → word ≡ 0
unused_word word unused = elim (eq-zero-or-pos word) [ inl none ↦ none | inr some ↦ absurd (set_nowhere some) ] where
  set_nowhere : zero < word → ⊥
  set_nowhere some =
      let place = trailing_zeros w64 word in
      let set : bit_at word place ≡ 1 = (bit_at-trailing_zeros w64 word some unused.is_word.below).1 in
      elim (unused.is_word.bits place set) [
        | inl low ↦ omega (arith, set, holder_bit word place unused.free low)
        | inr high ↦ asked place set high
      ] where
        asked : (place : ℕ) → bit_at word place ≡ 1 → (8 ≤ place) × (place < 56) → ⊥
        asked place set high =
            let at : 8 + (place - 8) ≡ place = omega (arith, high.0) in
            let none : (bit_at word (8 + (place - 8)) == 1) ≡ false = unused.unasked (place - 8) (omega (arith, high.0, high.1)) in
            let clear : (1 == 1) ≡ false = subst (λ (n : ℕ). (n == 1) ≡ false) (ap (bit_at word) at ∙ set) none in
            cc
