use Rattle.std.proofs.Common.{◌≡◌, ◌≢◌, ℕ, ◌+◌, ◌*◌, ◌%◌, ◌^◌, ◌<◌, ◌==◌, if◌then◌else◌, bit_or, sym, ◌∙◌, ap, subst, arith, below_more, le_refl, refl, eq-eqb}
use Rattle.std.proofs.Common.{ne_eqb, mod-eq_of_lt, w16}
use Rattle.std.{specs.Int.bit_at, proofs.{Math.Pow.pow-lt, lemmas.Nat.{or_lt, Bits.{bit_at_set_same, bit_at_set_other, bit_at_above}}}}
use Rattle.xbar_switch.specs.Field.{field_of}
use Rattle.xbar_match.proofs.channels.open_fields.Goals.{then-field-eq0, else-field-eq0}
use Rattle.xbar_match.proofs.channels.open_fields.Goals as goal

-- the bits so far, one for each field below n
record Bits (f : ℕ → ℕ) (n bits : ℕ) : Type 0 where
  fields : (j : ℕ) → j < n → bit_at bits j ≡ f j
  others : bits < 2 ^ n

with_bit : (f : ℕ → ℕ) (n bits new : ℕ) → n < 10 → f n ≡ 1 → new ≡ bit_or bits (1 * 2 ^ n % 65536) → Bits f n bits → Bits f (n + 1) new
with_bit f n bits new below is_one is so_far =
    let in_word : n < 16 = omega arith in
    let bit : 1 * 2 ^ n % 65536 < 2 ^ (n + 1) =
    let fits : 2 ^ n < 65536 = pow-lt {j = 16} in_word in
    omega (arith, mod-eq_of_lt fits, pow-lt {i = n} {j = n + 1} (omega arith)) in
    let older : bits < 2 ^ (n + 1) = omega (arith, so_far.others, pow-lt {i = n} {j = n + 1} (omega arith)) in
    record {
      fields = below_more (λ j. bit_at new j ≡ f j) n
          (λ j earlier.
          let differs : j ≢ n = omega arith in
          ap (λ b. bit_at b j) is ∙ bit_at_set_other w16 bits n in_word j differs ∙ so_far.fields j earlier)
          (ap (λ b. bit_at b n) is ∙ bit_at_set_same w16 bits n in_word ∙ sym is_one);
      others = subst (λ (b : ℕ). b < 2 ^ (n + 1)) (sym is) (or_lt (n + 1) bits (1 * 2 ^ n % 65536) older bit);
    }

without_bit : (f : ℕ → ℕ) (n bits new : ℕ) → f n ≡ 0 → new ≡ bits → Bits f n bits → Bits f (n + 1) new
without_bit f n bits new is_zero is so_far = record {
  fields = below_more (λ j. bit_at new j ≡ f j) n
      (λ j earlier. ap (λ b. bit_at b j) is ∙ so_far.fields j earlier)
      (ap (λ b. bit_at b n) is ∙ bit_at_above bits n n so_far.others (le_refl n) ∙ sym is_zero);
  others = omega (arith, so_far.others, is, pow-lt {i = n} {j = n + 1} (omega arith));
}

told-open : (held : ℕ) → held ≡ 0 → ◌≡◌ {A = ℕ} (if held == 0 then 1 else 0) 1
told-open held is_open = rw (eq-eqb held 0 is_open) refl

told-closed : (held : ℕ) → (held ≡ 0 → ⊥) → ◌≡◌ {A = ℕ} (if held == 0 then 1 else 0) 0
told-closed held is_closed = rw (ne_eqb held 0 is_closed) refl

pub loop-n-preserved : goal.loop-n-preserved
loop-n-preserved c =
    let f : ℕ → ℕ = λ n. if field_of c.args.shape c.args.word n == 0 then 1 else 0 in
    let so_far : Bits f c.loop-n.n c.loop-n.open = record { fields = c.loop-n.invariant.fields; others = c.loop-n.invariant.others } in
    let after : Bits f (c.loop-n.n + 1) c.if-field-eq0.open = elim c.if-field-eq0.branch [
      | then-field-eq0 w ↦
          with_bit f c.loop-n.n c.loop-n.open c.if-field-eq0.open c.loop-n-test.true
          (told-open (field_of c.args.shape c.args.word c.loop-n.n) (sym c.field.ensures.value ∙ w.if-field-eq0.true)) w.open-is so_far
      | else-field-eq0 w ↦
          without_bit f c.loop-n.n c.loop-n.open c.if-field-eq0.open
          (told-closed (field_of c.args.shape c.args.word c.loop-n.n) (λ e. w.if-field-eq0.false (c.field.ensures.value ∙ e))) w.open-is so_far
    ] in
    record { fields = after.fields; others = after.others }
