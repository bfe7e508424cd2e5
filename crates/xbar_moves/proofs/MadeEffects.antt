-- if markers past their turns have no effect left, the words show the set after the records as
-- they are
use Rattle.std.proofs.Common.{◌≡◌, ◌≢◌, ◌⊎◌, ℕ, suc, List, [], ◌∷◌, inl, inr, ◌∙◌, ap, refl, subst}
use mathlib.Core.Option.{some}
use lib.ListN.{get_elem?}
use Rattle.turns.specs.{Attempt.effects_left_in, World.{Idle, Does, completed_from, completed_word, effects_left_of, value_after}}
use Rattle.turns.{specs.declared.phase.Phase.TheVariants.{Requests, Seizes, Tests, Turns, Withdraws, GivesBack, Operates}, proofs.Completed.all_spare}
use Rattle.{xbar_plan.specs.Tables.Tables, xbar_office.specs.Legal.after, xbar_jobs.specs.{Attempt.{Attempt, Phase}, Office.{ShowsOffice, office}}}
use Rattle.{xbar_jobs.specs.declared.effect.Effect.Effect, xbar_moves.specs.{Exchange.{Exchange, IsLawfulExchange, Work}, Holding.{IsAt, completed}}}
use Rattle.xbar_moves.proofs.{Actors.marker_at, Markers.works, Records.completed_shows}

-- no marker past its turn has an effect left
abbrev pub AreMade : Exchange → Type 0
AreMade e = (k number turn : ℕ) (a : Attempt) → IsAt e k number a → a.phase ≡ Operates turn → a.effects ≡ []

-- a phase is past the turn, or no effect is left in it
pub past_or_not : (phase : Phase) (effects : List Effect)
    → ((turn : ℕ) × (phase ≡ Operates turn)) ⊎ ((effects_left_in phase effects ≡ []) × ((turn : ℕ) → phase ≢ Operates turn))
past_or_not (Operates turn) effects = inl (turn, refl)
past_or_not (Requests conn) effects = inr (refl, λ turn same. cc)
past_or_not (Seizes conn expected) effects = inr (refl, λ turn same. cc)
past_or_not (Tests word) effects = inr (refl, λ turn same. cc)
past_or_not Turns effects = inr (refl, λ turn same. cc)
past_or_not (Withdraws conn) effects = inr (refl, λ turn same. cc)
past_or_not GivesBack effects = inr (refl, λ turn same. cc)

none_in : (phase : Phase) (effects : List Effect) → ((turn : ℕ) → phase ≡ Operates turn → effects ≡ []) → effects_left_in phase effects ≡ []
none_in phase effects none = elim (past_or_not phase effects) [
  | inl past ↦ ap (λ (phase : Phase). effects_left_in phase effects) past.1 ∙ none past.0 past.1
  | inr waits ↦ waits.0
]

module _ (plan : Tables) where
  abbrev NoneLeft : List Work → Type 0
  NoneLeft actors = (j : ℕ) (work : Work) → get_elem? actors j ≡ some work → effects_left_of (office plan) work ≡ []

  -- so nothing is to be completed
  word_made : (actors : List Work) (word value : ℕ) → NoneLeft actors → completed_word (office plan) actors word value ≡ value
  word_made actors word value none =
      all_spare (office plan) actors word value (λ j work there v. ap (λ (effects : List Effect). value_after (office plan) effects word v) (none j work there))

  words_made : (actors : List Work) (word : ℕ) (words : List ℕ) → NoneLeft actors → completed_from (office plan) actors word words ≡ words
  words_made actors word [] none = refl
  words_made actors word (value ∷ words) none =
      ap (λ (v : ℕ). v ∷ completed_from (office plan) actors (suc word) words) (word_made actors word value none)
      ∙ ap (λ (rest : List ℕ). value ∷ rest) (words_made actors (suc word) words none)

  module _ (e : Exchange) (lawful : IsLawfulExchange plan e) (none : AreMade e) where
    none_left : NoneLeft (works e.markers)
    none_left k Idle there = refl
    none_left k (Does number a) there = none_in a.phase a.effects (λ turn past. none k number turn a (marker_at e k number a there) past)

    completed_is : completed plan e ≡ e.words
    completed_is = words_made (works e.markers) 0 e.words none_left

    -- the words show the set as they are
    pub made_show : ShowsOffice plan e.words (after plan e.records)
    made_show = subst (λ (words : List ℕ). ShowsOffice plan words (after plan e.records)) completed_is (completed_shows plan e lawful)
