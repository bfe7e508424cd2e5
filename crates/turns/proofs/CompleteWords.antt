-- if no actor has an effect left to make, the words are complete as they are
use Rattle.std.proofs.Common.{◌≡◌, ℕ, suc, List, [], ◌∷◌, refl, ap, ◌∙◌, subst}
use mathlib.Core.Option.{some}
use lib.ListN.{get_elem?}
use Rattle.turns.specs.{System.System, Attempt.{AttemptOf, effects_left_in}, World.{World, ActorOf, Idle, Does, effects_left_of, value_after, completed_word}}
use Rattle.turns.specs.{World.{completed_from, after}, Law.{IsAvailable, Lawful}, declared.phase.Phase.{Phase, TheVariants.{Requests, Seizes, Tests, Turns}}}
use Rattle.turns.{specs.declared.phase.Phase.TheVariants.{Withdraws, GivesBack, Operates}, proofs.{Completed.all_spare, Moving.rest_bare}}

module _ (O : System) where
  open O use {Lock, Effect}

  -- none of these actors has an effect left
  abbrev NoneLeft : List (ActorOf O) → Type 0
  NoneLeft actors = (k : ℕ) (m : ActorOf O) → get_elem? actors k ≡ some m → effects_left_of O m ≡ []

  complete_from : (actors : List (ActorOf O)) → NoneLeft actors
      → (number : ℕ) (words : List ℕ) → completed_from O actors number words ≡ words
  complete_from actors none number [] = refl
  complete_from actors none number (value ∷ words) =
      let same : completed_word O actors number value ≡ value =
      all_spare O actors number value
      (λ k m at found. ap (λ (effects : List Effect). value_after O effects number found) (none k m at)) in
      ap (λ (first : ℕ). first ∷ completed_from O actors (suc number) words) same ∙
      ap (λ (rest : List ℕ). value ∷ rest) (complete_from actors none (suc number) words)

  complete_shows : (w : World O) → Lawful O w → NoneLeft w.actors
      → O.Shows w.words (after O O.opening w.order)
  complete_shows w law none =
      subst (λ (words : List ℕ). O.Shows words (after O O.opening w.order))
      (complete_from w.actors none 0 w.words) law.shows

  -- before its turn an attempt has none left
  left_none : (phase : Phase Lock ℕ) (effects : List Effect)
      → ((turn : ℕ) → phase ≡ Operates turn → effects ≡ []) → effects_left_in phase effects ≡ []
  left_none (Requests lock) effects past = refl
  left_none (Seizes lock expected) effects past = refl
  left_none (Tests word) effects past = refl
  left_none Turns effects past = refl
  left_none (Withdraws lock) effects past = refl
  left_none GivesBack effects past = refl
  left_none (Operates turn) effects past = past turn refl

  pub made_shows : (w : World O) → Lawful O w
      → ((k number turn : ℕ) (a : AttemptOf O) → get_elem? w.actors k ≡ some (Does number a)
      → a.phase ≡ Operates turn → a.effects ≡ [])
      → O.Shows w.words (after O O.opening w.order)
  made_shows w law past = complete_shows w law none where
    none : NoneLeft w.actors
    none k Idle at = refl
    none k (Does number a) at =
        left_none a.phase a.effects (λ turn phase. past k number turn a at phase)

  free_left : (m : ActorOf O) → IsAvailable O m → effects_left_of O m ≡ []
  free_left Idle free = refl
  free_left (Does number a) free =
      let bare = rest_bare O a.phase a.job a.readings a.held a.reply a.effects free in
      bare.0

  pub idle_shows : (w : World O) → Lawful O w
      → ((k : ℕ) (m : ActorOf O) → get_elem? w.actors k ≡ some m → IsAvailable O m)
      → O.Shows w.words (after O O.opening w.order)
  idle_shows w law free = complete_shows w law (λ k m at. free_left m (free k m at))
