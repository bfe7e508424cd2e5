-- what effects make of the field of a closed crosspoint
use Rattle.std.proofs.Common.{◌≡◌, ◌≢◌, ℕ, ◌<◌, ◌≤◌, ◌⊎◌, List, [], ◌∷◌, length, map, slice_index, inl, inr, refl, sym, ◌∙◌, ap, subst, arith, length-set}
use Rattle.{std.proofs.lemmas.Bool.cases_eq, turns.specs.{Among.IsIn, System.{AreDue, perform, perform_all}}}
use Rattle.{turns.proofs.{Completed.{made_else, made_here}, Lists.index_other}, xbar_equip.specs.declared.crosspoint.Crosspoint.Crosspoint}
use Rattle.xbar_switch.{specs.Field.field_of, proofs.Fields.{field_of-open_same, field_of-open_other}}
use Rattle.xbar_match.{specs.{Effects.{IsCrosspoint, opened_word}, Switches.{held_at, shape_at}}, proofs.OneField.{held_at-close_other, held_at-open_other}}
use Rattle.{xbar_plan.specs.Tables.Tables, xbar_jobs.specs.{Closing.{IsDue, effect_on, effect_word, value_after as made_of}, Keeping.{AreEffects, IsEffect}}}
use Rattle.xbar_jobs.specs.{Office.office, declared.effect.Effect.{Effect, TheVariants.{Close, Open, SetBit, ClearBit}}}

-- two crosspoints are at one field, or not
one_field : (c d : Crosspoint) → ((c.word ≡ d.word) × (c.field ≡ d.field)) ⊎ (c.word ≡ d.word → c.field ≢ d.field)
one_field c d = elim (cases_eq c.word d.word) [
  | inl word ↦ elim (cases_eq c.field d.field) [ inl field ↦ inl (word, field) | inr other ↦ inr (λ same. other) ]
  | inr other ↦ inr (λ same. absurd (other same))
]

module _ (plan : Tables) (c : Crosspoint) (below : c.word < 400) (range : c.field < 10) (more : 0 < c.value) where
  -- a closed crosspoint is opened by the effects, or stays closed by them
  abbrev pub Opens : List ℕ → List Effect → Type 0
  Opens words effects = IsIn (Open c) effects ⊎ (¬ IsIn (Open c) effects × (held_at (perform_all (office plan) words effects) c.word c.field ≡ c.value))

  -- and so by one effect
  abbrev OpensBy : List ℕ → Effect → Type 0
  OpensBy words effect = (Open c ≡ effect) ⊎ ((Open c ≢ effect) × (held_at (perform (office plan) words effect) c.word c.field ≡ c.value))

  module _ (words : List ℕ) (long : 400 ≤ length words) (closed : held_at words c.word c.field ≡ c.value) where
    -- no effect closes its field
    by_close : (d : Crosspoint) → IsCrosspoint d → held_at words d.word d.field ≡ 0 → OpensBy words (Close d)
    by_close d is due = elim (one_field c d) [
      | inl same ↦
          let here : held_at words c.word c.field ≡ held_at words d.word d.field =
          ap (λ n. held_at words n c.field) same.0 ∙ ap (held_at words d.word) same.1 in
          let nothing : c.value ≡ 0 = sym closed ∙ here ∙ due in
          absurd (omega (arith, nothing, more))
      | inr other ↦ inr ((λ same. cc), held_at-close_other words d c.word c.field long is other ∙ closed)
    ]

    -- one that opens its field opens it
    by_open : (d : Crosspoint) → IsCrosspoint d → held_at words d.word d.field ≡ d.value → OpensBy words (Open d)
    by_open d is due = elim (one_field c d) [
      | inl same ↦
          let here : held_at words c.word c.field ≡ held_at words d.word d.field =
          ap (λ n. held_at words n c.field) same.0 ∙ ap (held_at words d.word) same.1 in
          let value : c.value ≡ d.value = sym closed ∙ here ∙ due in
          inl (λ i. Open (record { word = same.0 i; field = same.1 i; value = value i }))
      | inr other ↦ inr (
        (λ same. let one : c ≡ d = cc in other (ap (λ (x : Crosspoint). x.word) one) (ap (λ (x : Crosspoint). x.field) one)),
        held_at-open_other words d c.word c.field long is range other ∙ closed,
      )
    ]

    -- and one on a group's word leaves it as it is
    by_bit : (effect : Effect) → c.word ≢ effect_word effect → held_at (perform (office plan) words effect) c.word c.field ≡ c.value
    by_bit effect other = ap (λ word. field_of (shape_at c.word) word c.field) (index_other words (effect_word effect) c.word _ other) ∙ closed

    by_one : (effect : Effect) → IsEffect effect → IsDue effect (slice_index words (effect_word effect)) → OpensBy words effect
    by_one (Close d) is due = by_close d is due
    by_one (Open d) is due = by_open d is due
    by_one (SetBit number index) is due = inr ((λ same. cc), by_bit (SetBit number index) (λ same. omega (arith, same, below)))
    by_one (ClearBit number index) is due = inr ((λ same. cc), by_bit (ClearBit number index) (λ same. omega (arith, same, below)))

  -- effects that are due open a closed crosspoint, or leave it closed
  pub opens_or_stays : (words : List ℕ) (effects : List Effect) → 400 ≤ length words → AreEffects effects → AreDue (office plan) words effects
      → held_at words c.word c.field ≡ c.value → Opens words effects
  unfolding perform_all
  opens_or_stays words [] long are due closed = inr ((λ none. none), closed)
  opens_or_stays words (effect ∷ effects) long are due closed = elim (by_one words long closed effect (are effect (inl refl)) due.0) [
    | inl same ↦ inl (inl same)
    | inr other ↦
        let size = length-set words (effect_word effect) (effect_on effect (slice_index words (effect_word effect))) in
        elim (opens_or_stays (perform (office plan) words effect) effects (omega (arith, long, size)) (λ e within. are e (inr within)) due.1 other.1) [
          | inl later ↦ inl (inr later)
          | inr never ↦ inr ((λ within. elim within [ inl same ↦ other.0 same | inr later ↦ never.0 later ]), never.1)
        ]
  ]

module _ (plan : Tables) (n v : ℕ) (range : v < 10) where
  -- once crosspoints are opened, a field is 0, or it is as it was and none of them is there
  abbrev pub IsSpared : List Crosspoint → ℕ → Type 0
  IsSpared cs word =
      (field_of (shape_at n) (made_of (map Open cs) n word) v ≡ 0)
      ⊎ ((field_of (shape_at n) (made_of (map Open cs) n word) v ≡ field_of (shape_at n) word v) × ((d : Crosspoint) → IsIn d cs → d.word ≡ n → d.field ≢ v))

  -- one crosspoint more, which was opened first
  one_more : (d : Crosspoint) (cs : List Crosspoint) (word after : ℕ) → made_of (map Open (d ∷ cs)) n word ≡ made_of (map Open cs) n after
      → (field_of (shape_at n) after v ≡ 0) ⊎ ((field_of (shape_at n) after v ≡ field_of (shape_at n) word v) × (d.word ≡ n → d.field ≢ v)) → IsSpared cs after
      → IsSpared (d ∷ cs) word
  one_more d cs word after same first (inl opened) = inl (ap (λ x. field_of (shape_at n) x v) same ∙ opened)
  one_more d cs word after same (inl opened) (inr spared) = inl (ap (λ x. field_of (shape_at n) x v) same ∙ spared.0 ∙ opened)
  one_more d cs word after same (inr first) (inr spared) = inr (
    ap (λ x. field_of (shape_at n) x v) same ∙ spared.0 ∙ first.0,
    λ x within. elim within [ inl is ↦ subst (λ (y : Crosspoint). y.word ≡ n → y.field ≢ v) (sym is) first.1 | inr later ↦ spared.1 x later ],
  )

  -- what one crosspoint on the word makes of it
  opened_here : (d : Crosspoint) (word : ℕ) → IsCrosspoint d → d.word ≡ n
      → (field_of (shape_at n) (opened_word d word) v ≡ 0)
      ⊎ ((field_of (shape_at n) (opened_word d word) v ≡ field_of (shape_at n) word v) × (d.word ≡ n → d.field ≢ v))
  opened_here d word is here = elim (cases_eq v d.field) [
    | inl same ↦ inl (ap (λ m. field_of (shape_at m) (opened_word d word) v) (sym here) ∙ ap (field_of (shape_at d.word) (opened_word d word)) same
        ∙ field_of-open_same (shape_at d.word) word d.field is.field)
    | inr other ↦ inr (
      subst (λ (m : ℕ). field_of (shape_at m) (opened_word d word) v ≡ field_of (shape_at m) word v) here
          (field_of-open_other (shape_at d.word) word d.field v is.field range other),
      λ there same. other (sym same),
    )
  ]

  -- so of all of them
  pub spared : (cs : List Crosspoint) (word : ℕ) → ((d : Crosspoint) → IsIn d cs → IsCrosspoint d) → IsSpared cs word
  spared [] word are = inr (refl, λ d none. absurd none)
  spared (d ∷ cs) word are = elim (cases_eq d.word n) [
    | inl here ↦ one_more d cs word (opened_word d word) (made_here (office plan) (Open d) (map Open cs) n word here)
        (opened_here d word (are d (inl refl)) here) (spared cs (opened_word d word) (λ x within. are x (inr within)))
    | inr other ↦ one_more d cs word word (made_else (office plan) (Open d) (map Open cs) n word other) (inr (refl, λ here. absurd (other here)))
        (spared cs word (λ x within. are x (inr within)))
  ]
