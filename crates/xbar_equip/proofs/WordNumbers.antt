use Rattle.std.proofs.Common.{◌≡◌, ℕ, ◌/◌, ◌%◌, ◌-◌, ◌<◌, ◌≤◌, inl, inr, refl, ◌∙◌, ap, arith}
use Rattle.{std.proofs.lemmas.Bool.cases_lt, xbar_equip.specs.{Conn.IsConn, Word.{Word, IsWord, word_count, word_number, LineSwitch, LineJunctor, TrunkSwitch}}}
use Rattle.xbar_equip.specs.{Word.{TrunkJunctor, GroupWord, ConnWord, TurnWord}, declared.conn.Conn.{Conn, TheVariants.{Llf, Tlf, Group}}}

ap₂ : {A B C : Type 0} (f : A → B → C) {a a' : A} {b b' : B} → a ≡ a' → b ≡ b' → f a b ≡ f a' b'
ap₂ f {a} {a'} {b} {b'} p q = ap (λ x. f x b) p ∙ ap (λ y. f a' y) q

-- the numbers of connectors' words are between those of the groups' words and the turn word
pub conn_range : (c : Conn) → IsConn c → (416 ≤ word_number (ConnWord c)) × (word_number (ConnWord c) < 452)
conn_range (Llf f) a = (omega arith, omega arith)
conn_range (Tlf f) a = (omega arith, omega arith)
conn_range (Group g) a = (omega arith, omega arith)

pub distinct_conns : (c d : Conn) → IsConn c → IsConn d → word_number (ConnWord c) ≡ word_number (ConnWord d) → c ≡ d
distinct_conns (Llf f) (Llf g) a b e = ap Llf (omega arith)
distinct_conns (Tlf f) (Tlf g) a b e = ap Tlf (omega arith)
distinct_conns (Group f) (Group g) a b e = ap Group (omega arith)
distinct_conns c d a b e = absurd (omega arith)

-- distinct words have distinct numbers
pub distinct : (v w : Word) → IsWord v → IsWord w → word_number v ≡ word_number w → v ≡ w
distinct (LineSwitch f s) (LineSwitch g t) a b e = ap₂ LineSwitch (omega arith) (omega arith)
distinct (LineJunctor f s) (LineJunctor g t) a b e = ap₂ LineJunctor (omega arith) (omega arith)
distinct (TrunkSwitch f s) (TrunkSwitch g t) a b e = ap₂ TrunkSwitch (omega arith) (omega arith)
distinct (TrunkJunctor f s) (TrunkJunctor g t) a b e = ap₂ TrunkJunctor (omega arith) (omega arith)
distinct (GroupWord g) (GroupWord h) a b e = ap GroupWord (omega arith)
distinct TurnWord TurnWord a b e = refl
distinct (ConnWord c) (ConnWord d) a b e = ap ConnWord (distinct_conns c d a b e)
distinct (ConnWord c) w a b e = absurd (omega (arith, conn_range c a))
distinct v (ConnWord d) a b e = absurd (omega (arith, conn_range d b))
distinct v w a b e = absurd (omega arith)

-- the word of a number
pub record Named (n : ℕ) : Type 0 where
  pub word : Word
  pub is_word : IsWord word
  pub number : word_number word ≡ n

named : {n : ℕ} (w : Word) → IsWord w → word_number w ≡ n → Named n
named w h e = record { word = w; is_word = h; number = e }

-- each number below the count of words is the number of a word
pub each_named : (n : ℕ) → n < word_count → Named n
each_named n h = elim (cases_lt n 200) [ inl a ↦ line_side a | inr a ↦ elim (cases_lt n 400) [ inl b ↦ trunk_side a b | inr b ↦ others a b ] ] where
  line_side : n < 200 → Named n
  line_side a = elim (cases_lt (n % 20) 10) [
    | inl c ↦ named (LineSwitch (n / 20) (n % 20)) (omega arith, c) (omega arith)
    | inr c ↦ named (LineJunctor (n / 20) (n % 20 - 10)) (omega arith, omega arith) (omega arith)
  ]

  trunk_side : 200 ≤ n → n < 400 → Named n
  trunk_side a b = elim (cases_lt ((n - 200) % 20) 10) [
    | inl c ↦ named (TrunkSwitch ((n - 200) / 20) ((n - 200) % 20)) (omega arith, c) (omega arith)
    | inr c ↦ named (TrunkJunctor ((n - 200) / 20) ((n - 200) % 20 - 10)) (omega arith, omega arith) (omega arith)
  ]

  conns : 416 ≤ n → n < 452 → Named n
  conns a b = elim (cases_lt n 426) [
    | inl c ↦ named (ConnWord (Llf (n - 416))) (omega arith) (omega arith)
    | inr c ↦ elim (cases_lt n 436) [
      | inl d ↦ named (ConnWord (Tlf (n - 426))) (omega arith) (omega arith)
      | inr d ↦ named (ConnWord (Group (n - 436))) (omega arith) (omega arith)
    ]
  ]

  others : 200 ≤ n → 400 ≤ n → Named n
  others a b = elim (cases_lt n 416) [
    | inl c ↦ named (GroupWord (n - 400)) (omega arith) (omega arith)
    | inr c ↦ elim (cases_lt n 452) [ inl d ↦ conns c d | inr d ↦ named TurnWord tt (omega arith) ]
  ]
