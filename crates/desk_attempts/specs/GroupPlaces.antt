-- Each word in groups has a place of its own: the word can be told from its place.
use Rattle.std.proofs.Common.{◌≡◌, ◌∙◌, sym, ap, ap₂, subst, refl, ℕ, zero, suc, ◌+◌, ◌-◌, ◌*◌, ◌^◌, ◌/◌, ◌%◌, ◌<◌, ◌≤◌, Bool, true, false, cond, nat_lt, arith}
use Rattle.std.proofs.Math.Nat.{div-add-mod, div-lt_iff_lt-mul, lt-div-mul-add, mod-lt, mul_comm}
use Rattle.std.proofs.lemmas.Bool.{lt-ltb, ltb-true}
use Rattle.std.proofs.lemmas.Bool.Decides.{nat_tests}
use Rattle.std.proofs.lemmas.Nat.{div-mul-add, mod-mul-add, mul-add-lt}
use Rattle.turns.specs.Places.{ArePlaces}
use Rattle.desk_attempts.specs.Groups.{layout_of, place_of, places_of, stride_of}
use Rattle.desk_attempts.specs.declared.on_groups.Groups.{Groups}
use Rattle.turns.specs.Layouts.{size_of}

module _ (groups : Groups) where
  abbrev c : ℕ
  c = groups.count

  abbrev e : ℕ
  e = groups.each

  abbrev s : ℕ
  s = stride_of groups

  -- a group and its lock fit below the next group
  pub wide : e < s
  wide = at (nat_lt (e + 31) (2 ^ 32)) refl where
    at : (small : Bool) → nat_lt (e + 31) (2 ^ 32) ≡ small → e < cond small ((e + 31) / 16 * 16) (e + 1)
    at true is = let reaches : e + 31 < (e + 31) / 16 * 16 + 16 = lt-div-mul-add (omega arith) in omega (arith, reaches)
    at false is = omega arith

  -- the word at a place: of this group, and so far into it
  abbrev word_of : ℕ → ℕ → ℕ
  word_of group far = cond (nat_lt group c) (cond (nat_lt far e) (group * e + far) (c * e + group)) (c * e + c)

  abbrev word_at : ℕ → ℕ
  word_at place = word_of (place / s) (place % s)

  -- so far into a group
  there : (group far : ℕ) → far < s → word_at (group * s + far) ≡ word_of group far
  there group far below = ap₂ word_of (div-mul-add group s far below) (mod-mul-add group s far below)

  in_group : (group far : ℕ) → group < c → far < e → word_of group far ≡ group * e + far
  in_group group far few below =
      ap (λ b. cond b (cond (nat_lt far e) (group * e + far) (c * e + group)) (c * e + c)) (lt-ltb group c few)
      ∙ ap (λ b. cond b (group * e + far) (c * e + group)) (lt-ltb far e below)

  lock_of : (group : ℕ) → group < c → word_of group e ≡ c * e + group
  lock_of group few =
      ap (λ b. cond b (cond (nat_lt e e) (group * e + e) (c * e + group)) (c * e + c)) (lt-ltb group c few)
      ∙ at (nat_lt e e) refl where
        at : (b : Bool) → nat_lt e e ≡ b → cond b (group * e + e) (c * e + group) ≡ c * e + group
        at true is = let never : e < e = ltb-true e e is in omega (arith, never)
        at false is = refl

  turn_of : word_of c 0 ≡ c * e + c
  turn_of = at (nat_lt c c) refl where
    at : (b : Bool) → nat_lt c c ≡ b → cond b (cond (nat_lt 0 e) (c * e + 0) (c * e + c)) (c * e + c) ≡ c * e + c
    at true is = let never : c < c = ltb-true c c is in omega (arith, never)
    at false is = refl

  -- the group of a word
  pub group_below : (word : ℕ) → word < c * e → word / e < c × zero < e
  group_below word below = ((div-lt_iff_lt-mul {k = e} {x = word} {y = c} (positive e below)).1 below, positive e below) where
    positive : (n : ℕ) → word < c * n → zero < n
    positive zero less = let none : c * 0 ≡ 0 = omega arith in omega (arith, less, none)
    positive (suc n) less = omega arith

  -- a word is told from its place
  pub told : (word : ℕ) → word < c * e + c + 1 → word_at (place_of groups word) ≡ word
  told word below = first (nat_lt word (c * e)) refl where
    second : (b : Bool) → nat_lt word (c * e + c) ≡ b → c * e ≤ word → word_at (cond b ((word - c * e) * s + e) (c * s)) ≡ word
    second true is past =
        let here : word < c * e + c = ltb-true word (c * e + c) is in
        let few : word - c * e < c = omega (arith, here, past) in
        there (word - c * e) e wide ∙ lock_of (word - c * e) few ∙ omega (arith, past, here)
    second false is past =
        let last : c * e + c ≤ word = grind (arith, nat_tests) in
        let none : c * s + 0 ≡ c * s = omega arith in
        let is : word ≡ c * e + c = omega (arith, last, below) in
        ap word_at (sym none) ∙ there c 0 (omega (arith, wide)) ∙ turn_of ∙ sym is

    first : (b : Bool) → nat_lt word (c * e) ≡ b
        → word_at (cond b (word / e * s + word % e) (cond (nat_lt word (c * e + c)) ((word - c * e) * s + e) (c * s))) ≡ word
    first true is =
        let here : word < c * e = ltb-true word (c * e) is in
        let group = group_below word here in
        let far : word % e < e = mod-lt word group.1 in
        there (word / e) (word % e) (omega (arith, far, wide)) ∙ in_group (word / e) (word % e) group.0 far
        ∙ ap (λ n. n + word % e) (mul_comm (word / e) e) ∙ div-add-mod word e
    first false is = second (nat_lt word (c * e + c)) refl (grind (arith, nat_tests))

  within : (word : ℕ) → word < c * e + c + 1 → place_of groups word < c * s + 16
  within word below = first (nat_lt word (c * e)) refl where
    up_to : (group far : ℕ) → group < c → far < s → group * s + far < c * s + 16
    up_to group far few less = let fits : group * s + far < s * c = mul-add-lt group s far c few less in omega (arith, fits, mul_comm s c)

    second : (b : Bool) → nat_lt word (c * e + c) ≡ b → c * e ≤ word → cond b ((word - c * e) * s + e) (c * s) < c * s + 16
    second true is past =
        let here : word < c * e + c = ltb-true word (c * e + c) is in
        up_to (word - c * e) e (omega (arith, here, past)) wide
    second false is past = omega arith

    first : (b : Bool) → nat_lt word (c * e) ≡ b
        → cond b (word / e * s + word % e) (cond (nat_lt word (c * e + c)) ((word - c * e) * s + e) (c * s)) < c * s + 16
    first true is =
        let group = group_below word (ltb-true word (c * e) is) in
        let far : word % e < e = mod-lt word group.1 in
        up_to (word / e) (word % e) group.0 (omega (arith, far, wide))
    first false is = second (nat_lt word (c * e + c)) refl (grind (arith, nat_tests))

  pub places_of_groups : ArePlaces (places_of groups) (size_of (layout_of groups))
  places_of_groups = record {
    within = λ word below. within word (omega (arith, below));
    apart = λ a b one other same. sym (told a (omega (arith, one))) ∙ ap word_at same ∙ told b (omega (arith, other));
  }

  -- the same of as many words
  pub places_of_size : {size : ℕ} → size ≡ size_of (layout_of groups) → ArePlaces (places_of groups) size
  places_of_size same = subst (λ (size : ℕ). ArePlaces (places_of groups) size) (sym same) places_of_groups
