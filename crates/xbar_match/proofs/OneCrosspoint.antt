-- the word of a switch, and what the word shows, after one crosspoint is closed or opened
use Rattle.std.proofs.Common.{◌≡◌, ◌≢◌, ℕ, ◌+◌, ◌-◌, ◌/◌, ◌^◌, ◌<◌, ◌≤◌, ◌⊎◌, List, length, get_or, set, inl, inr, refl, sym, ◌∙◌, ap, subst, arith, lit<}
use Rattle.std.proofs.Common.{get_or-set_same, get_or-set_other, length-set, div-lt_iff_lt-mul}
use Rattle.{std.proofs.lemmas.Bool.cases_eq, xbar_equip.specs.declared.crosspoint.Crosspoint.Crosspoint}
use Rattle.xbar_switch.specs.{Shape.places, declared.shape.Shape.{Shape, TheVariants.{Line, Other}}, Field.{field_of, above_fields}}
use Rattle.xbar_switch.proofs.Fields.{field_of-close_same, field_of-close_other, above_fields-close, field_of-open_same, field_of-open_other, above_fields-open}
use Rattle.xbar_match.specs.{Switches.shape_at, Shows.WordShows, Effects.{IsCrosspoint, closed_word, opened_word, close_at, open_at}}

-- a word with no bit above its fields is below 2 ^ 64
pub no_more-lt : (shape : Shape) (word : ℕ) → above_fields shape word ≡ 0 → word < 2 ^ 64
unfolding above_fields
no_more-lt Line word none =
    let below : word / 2 ^ 60 < 1 = omega arith in
    omega (arith, (div-lt_iff_lt-mul {k = 2 ^ 60} {x = word} {y = 1} (lit< tt)).0 below)
no_more-lt Other word none =
    let below : word / 2 ^ 40 < 1 = omega arith in
    omega (arith, (div-lt_iff_lt-mul {k = 2 ^ 40} {x = word} {y = 1} (lit< tt)).0 below)

-- what shows one set of closed crosspoints shows any other that has the same
pub same-shows : (P Q : Crosspoint → Type 0) (n word : ℕ) → ((c : Crosspoint) → P c → Q c) → ((c : Crosspoint) → Q c → P c) → WordShows P n word
    → WordShows Q n word
same-shows P Q n word there back shows = record {
  closed = λ c is at. shows.closed c (back c is) at;
  others = λ v in_range. elim (shows.others v in_range) [ inl e ↦ inl e | inr is ↦ inr (there _ is) ];
  above = shows.above;
}

-- no closed crosspoint is at the field of this one
pub record IsFree (P : Crosspoint → Type 0) (c : Crosspoint) : Type 0 where
  pub free : (d : Crosspoint) → P d → d.word ≡ c.word → d.field ≡ c.field → ⊥

-- what is closed with this one closed too, and with this one open
abbrev pub With : (Crosspoint → Type 0) → Crosspoint → Crosspoint → Type 0
With P c d = (d ≡ c) ⊎ P d

abbrev pub Without : (Crosspoint → Type 0) → Crosspoint → Crosspoint → Type 0
Without P c d = P d × (d ≢ c)

-- a field at which no crosspoint is closed is 0
pub free-open : (P : Crosspoint → Type 0) (c : Crosspoint) (word : ℕ) → c.field < 10 → IsFree P c → WordShows P c.word word
    → field_of (shape_at c.word) word c.field ≡ 0
free-open P c word in_range free shows = elim (shows.others c.field in_range) [ inl e ↦ e | inr is ↦ absurd (free.free _ is refl refl) ]

-- closing a crosspoint at an open field
pub close-field : (c : Crosspoint) (word : ℕ) → IsCrosspoint c → field_of (shape_at c.word) word c.field ≡ 0
    → field_of (shape_at c.word) (closed_word c word) c.field ≡ c.value
close-field c word is was_open =
    let place : c.value - 1 < places (shape_at c.word) = omega (arith, is.closed, is.place) in
    let back : 1 + (c.value - 1) ≡ c.value = omega (arith, is.closed) in
    field_of-close_same (shape_at c.word) word c.field (c.value - 1) place was_open ∙ back

pub close-others : (c : Crosspoint) (word v : ℕ) → IsCrosspoint c → v ≢ c.field
    → field_of (shape_at c.word) (closed_word c word) v ≡ field_of (shape_at c.word) word v
close-others c word v is differs =
    let place : c.value - 1 < places (shape_at c.word) = omega (arith, is.closed, is.place) in
    field_of-close_other (shape_at c.word) word c.field (c.value - 1) v place differs

pub close-above : (c : Crosspoint) (word : ℕ) → IsCrosspoint c → above_fields (shape_at c.word) (closed_word c word) ≡ above_fields (shape_at c.word) word
close-above c word is =
    let place : c.value - 1 < places (shape_at c.word) = omega (arith, is.closed, is.place) in
    above_fields-close (shape_at c.word) word c.field (c.value - 1) is.field place

-- the word of its switch after a crosspoint is closed at a free field
pub close-shows : (P : Crosspoint → Type 0) (c : Crosspoint) (word : ℕ) → IsCrosspoint c → IsFree P c → WordShows P c.word word
    → WordShows (With P c) c.word (closed_word c word)
close-shows P c word is free shows = record { closed = closed; others = others; above = close-above c word is ∙ shows.above } where
  here : field_of (shape_at c.word) (closed_word c word) c.field ≡ c.value
  here = close-field c word is (free-open P c word is.field free shows)

  closed : (d : Crosspoint) → With P c d → d.word ≡ c.word → field_of (shape_at c.word) (closed_word c word) d.field ≡ d.value
  closed d (inl e) at = subst (λ (x : Crosspoint). field_of (shape_at c.word) (closed_word c word) x.field ≡ x.value) (sym e) here
  closed d (inr p) at = elim (cases_eq d.field c.field) [
    | inl same ↦ absurd (free.free d p at same)
    | inr differs ↦ close-others c word d.field is differs ∙ shows.closed d p at
  ]

  others : (v : ℕ) → v < 10
      → (field_of (shape_at c.word) (closed_word c word) v ≡ 0)
      ⊎ With P c (record { word = c.word; field = v; value = field_of (shape_at c.word) (closed_word c word) v })
  others v in_range = elim (cases_eq v c.field) [
    | inl same ↦
        let value : field_of (shape_at c.word) (closed_word c word) v ≡ c.value = ap (λ x. field_of (shape_at c.word) (closed_word c word) x) same ∙ here in
        inr (inl (λ i. record { word = c.word; field = same i; value = value i }))
    | inr differs ↦
        let keeps = close-others c word v is differs in
        elim (shows.others v in_range) [
          | inl zero ↦ inl (keeps ∙ zero)
          | inr p ↦ inr (inr (subst (λ (x : ℕ). P (record { word = c.word; field = v; value = x })) (sym keeps) p))
        ]
  ]

-- the word of its switch after a closed crosspoint is opened
pub open-shows : (P : Crosspoint → Type 0) (c : Crosspoint) (word : ℕ) → ((d : Crosspoint) → P d → d.field < 10) → P c → WordShows P c.word word
    → WordShows (Without P c) c.word (opened_word c word)
open-shows P c word ranges is_closed shows = record { closed = closed; others = others; above = above } where
  fits : word < 2 ^ 64
  fits = no_more-lt (shape_at c.word) word shows.above

  above : above_fields (shape_at c.word) (opened_word c word) ≡ 0
  above = above_fields-open (shape_at c.word) word c.field fits (ranges c is_closed) ∙ shows.above

  keeps : (v : ℕ) → v < 10 → v ≢ c.field → field_of (shape_at c.word) (opened_word c word) v ≡ field_of (shape_at c.word) word v
  keeps v in_range differs = field_of-open_other (shape_at c.word) word c.field v (ranges c is_closed) in_range differs

  one : (d : Crosspoint) → P d → d.word ≡ c.word → d.field ≡ c.field → d ≡ c
  one d p at same =
      let value : d.value ≡ c.value = sym (shows.closed d p at) ∙ ap (λ x. field_of (shape_at c.word) word x) same ∙ shows.closed c is_closed refl in
      λ i. record { word = at i; field = same i; value = value i }

  closed : (d : Crosspoint) → Without P c d → d.word ≡ c.word → field_of (shape_at c.word) (opened_word c word) d.field ≡ d.value
  closed d p at = elim (cases_eq d.field c.field) [
    | inl same ↦ absurd (p.1 (one d p.0 at same))
    | inr differs ↦ keeps d.field (ranges d p.0) differs ∙ shows.closed d p.0 at
  ]

  others : (v : ℕ) → v < 10
      → (field_of (shape_at c.word) (opened_word c word) v ≡ 0)
      ⊎ Without P c (record { word = c.word; field = v; value = field_of (shape_at c.word) (opened_word c word) v })
  others v in_range = elim (cases_eq v c.field) [
    | inl same ↦ inl (ap (λ x. field_of (shape_at c.word) (opened_word c word) x) same ∙ field_of-open_same (shape_at c.word) word c.field (ranges c is_closed))
    | inr differs ↦
        elim (shows.others v in_range) [
          | inl zero ↦ inl (keeps v in_range differs ∙ zero)
          | inr p ↦ inr (
            subst (λ (x : ℕ). P (record { word = c.word; field = v; value = x })) (sym (keeps v in_range differs)) p,
            λ e. differs (ap (λ (x : Crosspoint). x.field) e),
          )
        ]
  ]

-- the word of another switch shows the same, with a crosspoint or without it
pub elsewhere-with : (P : Crosspoint → Type 0) (c : Crosspoint) (n word : ℕ) → n ≢ c.word → WordShows P n word → WordShows (With P c) n word
elsewhere-with P c n word differs shows =
    record { closed = closed; others = λ v in_range. elim (shows.others v in_range) [ inl e ↦ inl e | inr p ↦ inr (inr p) ]; above = shows.above } where
      closed : (d : Crosspoint) → With P c d → d.word ≡ n → field_of (shape_at n) word d.field ≡ d.value
      closed d (inl e) at = absurd (differs (sym at ∙ ap (λ (x : Crosspoint). x.word) e))
      closed d (inr p) at = shows.closed d p at

pub elsewhere-without : (P : Crosspoint → Type 0) (c : Crosspoint) (n word : ℕ) → n ≢ c.word → WordShows P n word → WordShows (Without P c) n word
elsewhere-without P c n word differs shows = record {
  closed = λ d p at. shows.closed d p.0 at;
  others = λ v in_range. elim (shows.others v in_range) [ inl e ↦ inl e | inr p ↦ inr (p, λ e. differs (ap (λ (x : Crosspoint). x.word) e)) ];
  above = shows.above;
}

-- the words of all switches show what is closed
pub record Shows (words : List ℕ) (P : Crosspoint → Type 0) : Type 0 where
  pub switch : (n : ℕ) → n < 400 → WordShows P n (get_or words n 0)

-- what holds of one word of a list and of all others after that word is set
at_set : (R : ℕ → ℕ → Type 0) (words : List ℕ) (k x n : ℕ) → k < length words → R k x → (n ≢ k → R n (get_or words n 0)) → R n (get_or (set words k x) n 0)
at_set R words k x n within here there = elim (cases_eq n k) [
  | inl same ↦ subst (λ (m : ℕ). R m (get_or (set words k x) m 0)) (sym same) (subst (λ (w : ℕ). R k w) (sym (get_or-set_same words k x 0 within)) here)
  | inr differs ↦ subst (λ (w : ℕ). R n w) (sym (get_or-set_other words k n x 0 differs)) (there differs)
]

pub close_at-shows : (words : List ℕ) (P : Crosspoint → Type 0) (c : Crosspoint) → 400 ≤ length words → IsCrosspoint c → IsFree P c → Shows words P
    → Shows (close_at words c) (With P c)
close_at-shows words P c long is free shows = record {
  switch = λ n in_range.
      at_set (λ m w. WordShows (With P c) m w) words c.word (closed_word c (get_or words c.word 0)) n (omega (arith, is.word))
      (close-shows P c (get_or words c.word 0) is free (shows.switch c.word is.word))
      (λ differs. elsewhere-with P c n (get_or words n 0) differs (shows.switch n in_range));
}

pub open_at-shows : (words : List ℕ) (P : Crosspoint → Type 0) (c : Crosspoint) → 400 ≤ length words → c.word < 400 → ((d : Crosspoint) → P d → d.field < 10)
    → P c → Shows words P → Shows (open_at words c) (Without P c)
open_at-shows words P c long within ranges is_closed shows = record {
  switch = λ n in_range.
      at_set (λ m w. WordShows (Without P c) m w) words c.word (opened_word c (get_or words c.word 0)) n (omega arith)
      (open-shows P c (get_or words c.word 0) ranges is_closed (shows.switch c.word within))
      (λ differs. elsewhere-without P c n (get_or words n 0) differs (shows.switch n in_range));
}

-- neither closing nor opening changes the number of words
pub length-close_at : (words : List ℕ) (c : Crosspoint) → length (close_at words c) ≡ length words
length-close_at words c = length-set words c.word (closed_word c (get_or words c.word 0))

pub length-open_at : (words : List ℕ) (c : Crosspoint) → length (open_at words c) ≡ length words
length-open_at words c = length-set words c.word (opened_word c (get_or words c.word 0))
