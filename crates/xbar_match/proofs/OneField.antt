-- what closing or opening one crosspoint does to each field of the words
use Rattle.std.proofs.Common.{◌≡◌, ◌≢◌, ℕ, ◌<◌, ◌≤◌, List, length, get_or, set, inl, inr, sym, ◌∙◌, ap, subst, arith, get_or-set_same, get_or-set_other}
use Rattle.{std.proofs.lemmas.Bool.cases_eq, xbar_equip.specs.declared.crosspoint.Crosspoint.Crosspoint, xbar_switch.specs.Field.field_of}
use Rattle.{xbar_switch.proofs.Fields.{field_of-open_same, field_of-open_other}, xbar_match.specs.Switches.{shape_at, held_at}}
use Rattle.xbar_match.{specs.Effects.{IsCrosspoint, closed_word, opened_word, close_at, open_at}, proofs.OneCrosspoint.{close-field, close-others}}

-- the field itself
pub held_at-close_same : (words : List ℕ) (c : Crosspoint) → 400 ≤ length words → IsCrosspoint c → held_at words c.word c.field ≡ 0
    → held_at (close_at words c) c.word c.field ≡ c.value
held_at-close_same words c long is was_open =
    ap (λ w. field_of (shape_at c.word) w c.field) (get_or-set_same words c.word (closed_word c (get_or words c.word 0)) 0 (omega (arith, is.word)))
    ∙ close-field c (get_or words c.word 0) is was_open

pub held_at-open_same : (words : List ℕ) (c : Crosspoint) → 400 ≤ length words → IsCrosspoint c → held_at (open_at words c) c.word c.field ≡ 0
held_at-open_same words c long is =
    ap (λ w. field_of (shape_at c.word) w c.field) (get_or-set_same words c.word (opened_word c (get_or words c.word 0)) 0 (omega (arith, is.word)))
    ∙ field_of-open_same (shape_at c.word) (get_or words c.word 0) c.field is.field

-- each other field
other_field : (words : List ℕ) (c : Crosspoint) (new n v : ℕ) → 400 ≤ length words → IsCrosspoint c → (n ≡ c.word → v ≢ c.field)
    → (v ≢ c.field → field_of (shape_at c.word) new v ≡ field_of (shape_at c.word) (get_or words c.word 0) v)
    → held_at (set words c.word new) n v ≡ held_at words n v
other_field words c new n v long is other keeps = elim (cases_eq n c.word) [
  | inl same ↦
      subst (λ (m : ℕ). held_at (set words c.word new) m v ≡ held_at words m v) (sym same)
      (ap (λ w. field_of (shape_at c.word) w v) (get_or-set_same words c.word new 0 (omega (arith, is.word))) ∙ keeps (other same))
  | inr differs ↦ ap (λ w. field_of (shape_at n) w v) (get_or-set_other words c.word n new 0 differs)
]

pub held_at-close_other : (words : List ℕ) (c : Crosspoint) (n v : ℕ) → 400 ≤ length words → IsCrosspoint c → (n ≡ c.word → v ≢ c.field)
    → held_at (close_at words c) n v ≡ held_at words n v
held_at-close_other words c n v long is other =
    other_field words c (closed_word c (get_or words c.word 0)) n v long is other (close-others c (get_or words c.word 0) v is)

pub held_at-open_other : (words : List ℕ) (c : Crosspoint) (n v : ℕ) → 400 ≤ length words → IsCrosspoint c → v < 10 → (n ≡ c.word → v ≢ c.field)
    → held_at (open_at words c) n v ≡ held_at words n v
held_at-open_other words c n v long is in_range other =
    other_field words c (opened_word c (get_or words c.word 0)) n v long is other
    (field_of-open_other (shape_at c.word) (get_or words c.word 0) c.field v is.field in_range)
