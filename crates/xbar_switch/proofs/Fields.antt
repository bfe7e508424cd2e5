-- the laws of fields: each field, and the bits above them, after or-ing in the close bits and
-- and-ing with the open mask
use Rattle.std.proofs.Common.{◌≡◌, ◌≢◌, ℕ, ◌+◌, ◌-◌, ◌*◌, ◌/◌, ◌%◌, ◌^◌, ◌<◌, ◌≤◌, Bool, true, cond, eqb, bit_and, bit_or, refl, ap, ap₂, ◌∙◌, mod-eq_of_lt}
use Rattle.std.proofs.Common.{pow_mono, lt_of_lt_of_le, mul-le-mul_left, mul_assoc, mod-lt, arith, pow-add, eqb-true, eq-eqb, ne_eqb, inl, inr, pow_pos}
use Rattle.std.proofs.{Math.Nat.{mul-mod_left, zero-mod, zero-div, div-eq_of_lt}, lemmas.Nat.{shl-shr, shl_below, shr_below, or_shr, or_mod, and_shr, and_mod}}
use Rattle.std.proofs.lemmas.{Nat.{and_mask, or_comm, and_comm}, Bool.{agree_below, agree_below_at, cases_lt, cond-true, cond-false}}
use Rattle.xbar_switch.specs.{declared.shape.Shape.{Shape, TheVariants.{Line, Other}}, Shape.{width, places}}
use Rattle.xbar_switch.specs.Field.{field_of, above_fields, close_bits_of, open_mask_of, ChangesField, with_closed, with_open}

-- one plus a place fits its field
pub place-fits : (shape : Shape) (h : ℕ) → h < places shape → 1 + h < 2 ^ width shape
place-fits Line h in_range = omega arith
place-fits Other h in_range = omega arith

-- a field ends within the word
pub field-within_word : (shape : Shape) (v : ℕ) → v < 10 → width shape + width shape * v ≤ 64
field-within_word Line v is_field = omega arith
field-within_word Other v is_field = omega arith

-- a field is below 2 to its width
pub field_of-lt : (shape : Shape) (word v : ℕ) → field_of shape word v < 2 ^ width shape
unfolding field_of
field_of-lt shape word v = mod-lt (word / 2 ^ (width shape * v)) (pow_pos (width shape))

-- each field of the word 0 is open, and no bit above the fields is set
pub field_of-zero : (shape : Shape) (v : ℕ) → field_of shape 0 v ≡ 0
unfolding field_of
field_of-zero shape v =
    ap (λ (n : ℕ). n % 2 ^ width shape) (zero-div (2 ^ (width shape * v))) ∙ zero-mod (2 ^ width shape)

pub above_fields-zero : (shape : Shape) → above_fields shape 0 ≡ 0
unfolding above_fields
above_fields-zero shape = zero-div (2 ^ (width shape * 10))

-- ---- fields of `|` and of `&`

pub field_of-or : (shape : Shape) (a b v : ℕ)
    → field_of shape (bit_or a b) v ≡ bit_or (field_of shape a v) (field_of shape b v)
unfolding field_of
field_of-or shape a b v =
    ap (λ (n : ℕ). n % 2 ^ width shape) (or_shr a b (width shape * v))
    ∙ or_mod (a / 2 ^ (width shape * v)) (b / 2 ^ (width shape * v)) (width shape)

pub field_of-and : (shape : Shape) (a b v : ℕ)
    → field_of shape (bit_and a b) v ≡ bit_and (field_of shape a v) (field_of shape b v)
unfolding field_of
field_of-and shape a b v =
    ap (λ (n : ℕ). n % 2 ^ width shape) (and_shr a b (width shape * v))
    ∙ and_mod (a / 2 ^ (width shape * v)) (b / 2 ^ (width shape * v)) (width shape)

pub above_fields-or : (shape : Shape) (a b : ℕ)
    → above_fields shape (bit_or a b) ≡ bit_or (above_fields shape a) (above_fields shape b)
unfolding above_fields
above_fields-or shape a b = or_shr a b (width shape * 10)

pub above_fields-and : (shape : Shape) (a b : ℕ)
    → above_fields shape (bit_and a b) ≡ bit_and (above_fields shape a) (above_fields shape b)
unfolding above_fields
above_fields-and shape a b = and_shr a b (width shape * 10)

-- ---- the close bits

-- a number of k bits, moved up to k * v, ends below each later multiple of k
moved-lt : (k n v later : ℕ) → n < 2 ^ k → v < later → n * 2 ^ (k * v) < 2 ^ (k * later)
moved-lt k n v later fits is_later =
    let within : k + k * v ≤ k * later = omega (arith, mul-le-mul_left k is_later) in
    lt_of_lt_of_le (shl_below n k (k * v) fits) (pow_mono within)

moved_split : (k n v apart earlier : ℕ) → v ≡ apart + 1 + earlier
    → n * 2 ^ (k * v) ≡ n * 2 ^ (k * apart) * 2 ^ k * 2 ^ (k * earlier)
moved_split k n v apart earlier e =
    let far : k * v ≡ k * apart + k + k * earlier = omega (arith, ap (λ x. k * x) e) in
    rw far (simp (pow-add, mul_assoc))

-- a number moved up to k * v has no bit among the k bits at an earlier multiple of k
moved-div-mod : (k n v earlier : ℕ) → earlier < v → n * 2 ^ (k * v) / 2 ^ (k * earlier) % 2 ^ k ≡ 0
moved-div-mod k n v earlier is_earlier =
    let apart : v ≡ v - earlier - 1 + 1 + earlier = omega arith in
    ap (λ (x : ℕ). x / 2 ^ (k * earlier) % 2 ^ k) (moved_split k n v (v - earlier - 1) earlier apart)
    ∙ ap (λ (x : ℕ). x % 2 ^ k) (shl-shr (n * 2 ^ (k * (v - earlier - 1)) * 2 ^ k) (k * earlier))
    ∙ mul-mod_left (n * 2 ^ (k * (v - earlier - 1))) (2 ^ k)

pub field_of-close_bits_same : (shape : Shape) (v h : ℕ) → h < places shape
    → field_of shape (close_bits_of shape v h) v ≡ 1 + h
unfolding field_of close_bits_of
field_of-close_bits_same shape v h in_range =
    ap (λ (n : ℕ). n % 2 ^ width shape) (shl-shr (1 + h) (width shape * v))
    ∙ mod-eq_of_lt (place-fits shape h in_range)

pub field_of-close_bits_other : (shape : Shape) (v h other : ℕ) → h < places shape → other ≢ v
    → field_of shape (close_bits_of shape v h) other ≡ 0
unfolding field_of close_bits_of
field_of-close_bits_other shape v h other in_range differs =
    elim (cases_lt v other) [
      | inl later ↦
          ap (λ (n : ℕ). n % 2 ^ width shape)
          (div-eq_of_lt (moved-lt (width shape) (1 + h) v other (place-fits shape h in_range) later))
          ∙ zero-mod (2 ^ width shape)
      | inr at_most ↦
          let earlier : other < v = omega arith in
          moved-div-mod (width shape) (1 + h) v other earlier
    ]

pub above_fields-close_bits : (shape : Shape) (v h : ℕ) → v < 10 → h < places shape
    → above_fields shape (close_bits_of shape v h) ≡ 0
unfolding above_fields close_bits_of
above_fields-close_bits shape v h is_field in_range =
    div-eq_of_lt (moved-lt (width shape) (1 + h) v 10 (place-fits shape h in_range) is_field)

-- ---- the open mask, computed at each pair of fields

-- whether a field of the mask is 0, if it is field v, or has every bit set, if it is another
is_mask_field : Shape → ℕ → ℕ → Bool
is_mask_field shape v other =
    eqb (field_of shape (open_mask_of shape v) other) (cond (eqb other v) 0 (2 ^ width shape - 1))

-- whether every bit of the mask above the fields is set
is_mask_above : Shape → ℕ → Bool
is_mask_above shape v = eqb (above_fields shape (open_mask_of shape v)) (2 ^ (64 - width shape * 10) - 1)

mask_fields : (shape : Shape)
    → agree_below (λ v. agree_below (is_mask_field shape v) (λ _. true) 10) (λ _. true) 10 ≡ true
unfolding field_of open_mask_of is_mask_field
mask_fields Line = refl
mask_fields Other = refl

mask_above : (shape : Shape) → agree_below (is_mask_above shape) (λ _. true) 10 ≡ true
unfolding above_fields open_mask_of is_mask_above
mask_above Line = refl
mask_above Other = refl

mask_field : (shape : Shape) (v other : ℕ) → v < 10 → other < 10
    → field_of shape (open_mask_of shape v) other ≡ cond (eqb other v) 0 (2 ^ width shape - 1)
unfolding is_mask_field
mask_field shape v other is_field other_is_field =
    let every : ℕ → Bool = λ v. agree_below (is_mask_field shape v) (λ _. true) 10 in
    let here = agree_below_at every (λ _. true) 10 v (mask_fields shape) is_field in
    eqb-true _ _ (agree_below_at (is_mask_field shape v) (λ _. true) 10 other here other_is_field)

pub field_of-open_mask_same : (shape : Shape) (v : ℕ) → v < 10 → field_of shape (open_mask_of shape v) v ≡ 0
field_of-open_mask_same shape v is_field =
    mask_field shape v v is_field is_field
    ∙ cond-true (eqb v v) 0 (2 ^ width shape - 1) (eq-eqb v v refl)

pub field_of-open_mask_other : (shape : Shape) (v other : ℕ) → v < 10 → other < 10 → other ≢ v
    → field_of shape (open_mask_of shape v) other ≡ 2 ^ width shape - 1
field_of-open_mask_other shape v other is_field other_is_field differs =
    mask_field shape v other is_field other_is_field
    ∙ cond-false (eqb other v) 0 (2 ^ width shape - 1) (ne_eqb other v differs)

pub above_fields-open_mask : (shape : Shape) (v : ℕ) → v < 10
    → above_fields shape (open_mask_of shape v) ≡ 2 ^ (64 - width shape * 10) - 1
unfolding is_mask_above
above_fields-open_mask shape v is_field =
    eqb-true _ _ (agree_below_at (is_mask_above shape) (λ _. true) 10 v (mask_above shape) is_field)

-- ---- closing and opening

-- closing an open field sets it to one plus the place
pub field_of-close_same : (shape : Shape) (word v h : ℕ) → h < places shape → field_of shape word v ≡ 0
    → field_of shape (with_closed shape word v h) v ≡ 1 + h
field_of-close_same shape word v h in_range is_open =
    field_of-or shape word (close_bits_of shape v h) v
    ∙ ap₂ bit_or is_open (field_of-close_bits_same shape v h in_range)

-- closing a field leaves every other field
pub field_of-close_other : (shape : Shape) (word v h other : ℕ) → h < places shape → other ≢ v
    → field_of shape (with_closed shape word v h) other ≡ field_of shape word other
field_of-close_other shape word v h other in_range differs =
    field_of-or shape word (close_bits_of shape v h) other
    ∙ ap (bit_or (field_of shape word other)) (field_of-close_bits_other shape v h other in_range differs)
    ∙ or_comm (field_of shape word other) 0

-- closing a field keeps the bits above the fields
pub above_fields-close : (shape : Shape) (word v h : ℕ) → v < 10 → h < places shape
    → above_fields shape (with_closed shape word v h) ≡ above_fields shape word
above_fields-close shape word v h is_field in_range =
    above_fields-or shape word (close_bits_of shape v h)
    ∙ ap (bit_or (above_fields shape word)) (above_fields-close_bits shape v h is_field in_range)
    ∙ or_comm (above_fields shape word) 0

-- opening a field makes it 0
pub field_of-open_same : (shape : Shape) (word v : ℕ) → v < 10
    → field_of shape (with_open shape word v) v ≡ 0
field_of-open_same shape word v is_field =
    field_of-and shape word (open_mask_of shape v) v
    ∙ ap (bit_and (field_of shape word v)) (field_of-open_mask_same shape v is_field)
    ∙ and_comm (field_of shape word v) 0

-- opening a field leaves every other field
pub field_of-open_other : (shape : Shape) (word v other : ℕ) → v < 10 → other < 10 → other ≢ v
    → field_of shape (with_open shape word v) other ≡ field_of shape word other
field_of-open_other shape word v other is_field other_is_field differs =
    field_of-and shape word (open_mask_of shape v) other
    ∙ ap (bit_and (field_of shape word other))
    (field_of-open_mask_other shape v other is_field other_is_field differs)
    ∙ and_mask (field_of shape word other) (width shape)
    ∙ mod-eq_of_lt (field_of-lt shape word other)

above_fields-lt : (shape : Shape) (word : ℕ) → word < 2 ^ 64 → above_fields shape word < 2 ^ (64 - width shape * 10)
unfolding above_fields
above_fields-lt Line word in_word = shr_below word 4 60 in_word
above_fields-lt Other word in_word = shr_below word 24 40 in_word

-- opening a field keeps the bits above the fields
pub above_fields-open : (shape : Shape) (word v : ℕ) → word < 2 ^ 64 → v < 10
    → above_fields shape (with_open shape word v) ≡ above_fields shape word
above_fields-open shape word v in_word is_field =
    above_fields-and shape word (open_mask_of shape v)
    ∙ ap (bit_and (above_fields shape word)) (above_fields-open_mask shape v is_field)
    ∙ and_mask (above_fields shape word) (64 - width shape * 10)
    ∙ mod-eq_of_lt (above_fields-lt shape word in_word)

-- closing an open field changes only that field
pub ChangesField-close : (shape : Shape) (word v h : ℕ) → v < 10 → h < places shape → field_of shape word v ≡ 0
    → ChangesField shape word (with_closed shape word v h) v (1 + h)
ChangesField-close shape word v h is_field in_range is_open = record {
  changed = field_of-close_same shape word v h in_range is_open;
  others = λ other _ differs. field_of-close_other shape word v h other in_range differs;
  above = above_fields-close shape word v h is_field in_range;
}

-- opening a field changes only that field
pub ChangesField-open : (shape : Shape) (word v : ℕ) → word < 2 ^ 64 → v < 10
    → ChangesField shape word (with_open shape word v) v 0
ChangesField-open shape word v in_word is_field = record {
  changed = field_of-open_same shape word v is_field;
  others = λ other other_is_field differs.
      field_of-open_other shape word v other is_field other_is_field differs;
  above = above_fields-open shape word v in_word is_field;
}

-- the value of each field, and of the bits above the fields, after a field is closed or opened
pub ruleset field_laws = (field_of-close_same, field_of-close_other, above_fields-close, field_of-open_same, field_of-open_other, above_fields-open)
