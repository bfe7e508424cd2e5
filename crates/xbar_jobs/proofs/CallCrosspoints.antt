-- the crosspoints of a call, and what opening them makes of words
use Rattle.std.proofs.Common.{◌≡◌, ℕ, ◌<◌, ◌≤◌, ◌⊎◌, List, [], ◌∷◌, ◌++◌, length, fold, map, inl, inr, refl, sym, ◌∙◌, ap, arith, Option, Some, None}
use Rattle.{turns.specs.System.{perform, perform_all}, xbar_equip.specs.{Among.IsIn, Crosspoint.crosspoints, declared.crosspoint.Crosspoint.Crosspoint}}
use Rattle.{xbar_equip.{specs.declared.path.Path.Path, proofs.Lists.in_either}, xbar_plan.specs.{Tables.Tables, declared.group.MemberPlace.MemberPlace}}
use Rattle.xbar_match.{specs.{Effects.{IsCrosspoint, open_at}, Switches.held_at}, proofs.{OneCrosspoint.length-open_at, OneField.held_at-open_other}}
use Rattle.xbar_jobs.specs.{Closing.{leave_effects, leave_of, path_opens, other_opens}, Office.office, Opening.call_crosspoints}
use Rattle.xbar_jobs.{specs.declared.effect.Effect.TheVariants.{ClearBit, Open}, proofs.TakenMembers.perform_all-append}

-- a crosspoint of a call is of its own path or of the other party's
pub record IsOfCall (own : Path) (other : Option Path) (c : Crosspoint) : Type 0 where
  pub path : Path
  pub goes : (path ≡ own) ⊎ (other ≡ Some path)
  pub there : IsIn c (crosspoints path)

pub of_call : (own : Path) (other : Option Path) (c : Crosspoint) → IsIn c (call_crosspoints own other) → IsOfCall own other c
of_call own None c within = record { path = own; goes = inl refl; there = within }
of_call own (Some path) c within = elim (in_either c (crosspoints own) (crosspoints path) within) [
  | inl there ↦ record { path = own; goes = inl refl; there = there }
  | inr there ↦ record { path = path; goes = inr refl; there = there }
]

pub call_opens : (own : Path) (other : Option Path) → path_opens own ++ other_opens other ≡ map Open (call_crosspoints own other)
call_opens own None = refl
call_opens own (Some path) = refl

module _ (plan : Tables) where
  opens_made : (words : List ℕ) (cs : List Crosspoint) → perform_all (office plan) words (map Open cs) ≡ fold open_at words cs
  unfolding perform_all
  opens_made words [] = refl
  opens_made words (c ∷ cs) = opens_made (open_at words c) cs

  -- letting a call go opens its crosspoints, and then clears its member's bit
  pub leave_words : (words : List ℕ) (own : Path) (other : Option Path) (found : MemberPlace)
      → perform_all (office plan) words (leave_effects (leave_of own other found))
      ≡ perform (office plan) (fold open_at words (call_crosspoints own other)) (ClearBit found.group found.index)
  unfolding perform_all
  leave_words words own other found =
      perform_all-append plan words (path_opens own ++ other_opens other) (ClearBit found.group found.index ∷ [])
      ∙ ap (λ (opened : List ℕ). perform (office plan) opened (ClearBit found.group found.index))
      (ap (perform_all (office plan) words) (call_opens own other) ∙ opens_made words (call_crosspoints own other))

-- opening crosspoints leaves every other field as it is
pub open_all-others : (words : List ℕ) (cs : List Crosspoint) (n v : ℕ) → 400 ≤ length words → ((c : Crosspoint) → IsIn c cs → IsCrosspoint c) → v < 10
    → ((c : Crosspoint) → IsIn c cs → c.word ≡ n → c.field ≡ v → ⊥)
    → held_at (fold open_at words cs) n v ≡ held_at words n v
open_all-others words [] n v long are in_range other = refl
open_all-others words (c ∷ cs) n v long are in_range other =
    open_all-others (open_at words c) cs n v (omega (arith, length-open_at words c)) (λ d within. are d (inr within)) in_range
    (λ d within. other d (inr within))
    ∙ held_at-open_other words c n v long (are c (inl refl)) in_range (λ same field. other c (inl refl) (sym same) (sym field))
