-- an actor that is left alone ends its job
use Rattle.std.proofs.Common.{◌≡◌, ◌≢◌, ℕ, zero, suc, ◌+◌, ◌≤◌, ◌⊎◌, Bool, true, false, List, [], ◌∷◌, length, slice_index, inl, inr, refl, sym, ap, subst}
use Rattle.std.proofs.Common.{arith, ◌==◌, if◌then◌else◌, eqb-true}
use mathlib.Core.Option.{some}
use lib.ListN.{get_elem?}
use Rattle.turns.specs.System.{System, IsSystem}
use Rattle.turns.specs.Attempt.{AttemptOf, IsValidIn, act, act_in, answer_to, changed, closing_act, free_act, next, operated, rest_of, unless_denied}
use Rattle.turns.specs.declared.{act.Act.TheVariants.Finished, answer.Answer.TheVariants.{Seized, Again}, judgement.Judgement.Judgement, phase.Phase.Phase}
use Rattle.turns.specs.declared.phase.Phase.TheVariants.{Requests, Seizes as SeizesNext, Tests as TestsNext, Turns, Withdraws, GivesBack, Operates}
use Rattle.turns.specs.{World.{World, ActorOf, Does, moved, place}, Law.{IsAvailable, Lawful, word_at}, Bounds.{AreBounded, after_steps}}
use Rattle.turns.proofs.{Lists.one_or_two, SteadyAttempts.{IsWithin, WithinIn, room_more, room_seized, made_one, whole_job, within_anywhere}}
use Rattle.turns.proofs.{ExactWords.{rest_or_not, answers_fit, IsExact}, LeftAlone.{AreAside, steady, exact_next, there_next, aside_next, step_is, free_again}}

module _ (O : System) (is : IsSystem O) (tests seizings effects : ℕ) (bounded : AreBounded O tests seizings effects) where
  open O use {Lock, Effect, sharing}

  -- an attempt of which no step is left has no next step
  closed : (effects : List Effect) (held : List Lock) → length effects + length held ≤ 0 → closing_act effects held ≡ Finished
  closed [] [] none = refl
  closed [] (lock ∷ held) none = absurd (omega arith)
  closed (effect ∷ effects) held none = absurd (omega arith)

  rests_in : (a : AttemptOf O) (phase : Phase Lock ℕ) → IsValidIn O a phase → WithinIn O is tests seizings effects bounded 0 a phase → act_in phase a ≡ Finished
  rests_in a (Requests lock) valid room = absurd (omega (arith, room.fits))
  rests_in a (SeizesNext lock expected) valid room =
      let after = room_seized O is tests seizings effects bounded 0 a lock valid (room_more O is tests seizings effects bounded 1 2 a (omega arith) room) in
      absurd (omega (arith, after.fits))
  rests_in a (TestsNext word) valid room = absurd (omega (arith, room.fits))
  rests_in a Turns valid within = absurd (omega (arith, within.1))
  rests_in a (Withdraws lock) valid within = absurd (omega arith)
  rests_in a GivesBack valid within = absurd (omega arith)
  rests_in a (Operates turn) valid within = closed a.effects a.held within

  -- one without a next step has none after a step either
  rested : (k found turn : ℕ) (a : AttemptOf O) (left : List Effect) (held : List Lock) → a.phase ≡ Operates turn → a.effects ≡ left → a.held ≡ held
      → closing_act left held ≡ Finished
      → IsWithin O is tests seizings effects bounded 0 (changed O a (Operates turn) (answer_to O k (closing_act left held) found))
  rested k found turn a [] [] at these those rest =
      let none : length a.effects ≡ 0 = ap (length {A = Effect}) these in
      let bare : length (rest_of a.held) ≡ 0 = ap (λ (l : List Lock). length (rest_of l)) those in
      subst (λ (l : List Effect). IsWithin O is tests seizings effects bounded 0 (operated a l)) (sym these)
      (subst (WithinIn O is tests seizings effects bounded 0 (operated a [])) (sym at) (omega (arith, none, bare)))
  rested k found turn a [] (lock ∷ held) at these those rest = absurd cc
  rested k found turn a (effect ∷ left) held at these those rest = absurd cc

  given_not : (held : List Lock) → ¬ (held ≡ []) → free_act {Effect = Effect} held ≡ Finished → ⊥
  given_not [] not rest = not refl
  given_not (lock ∷ held) not rest = cc

  rested_in : (k found : ℕ) (a : AttemptOf O) (phase : Phase Lock ℕ) → a.phase ≡ phase → IsValidIn O a phase → act_in phase a ≡ Finished
      → IsWithin O is tests seizings effects bounded 0 (changed O a phase (answer_to O k (act_in phase a) found))
  rested_in k found a (Requests lock) at valid rest = absurd cc
  rested_in k found a (SeizesNext lock expected) at valid rest = absurd cc
  rested_in k found a (TestsNext word) at valid rest = absurd cc
  rested_in k found a Turns at valid rest = absurd cc
  rested_in k found a (Withdraws lock) at valid rest = absurd cc
  rested_in k found a GivesBack at valid rest = absurd (given_not a.held valid rest)
  rested_in k found a (Operates turn) at valid rest = rested k found turn a a.effects a.held at refl refl rest

  module _ (keeps : (w : World O) (k number : ℕ) (a : AttemptOf O) → Lawful O w → get_elem? w.actors k ≡ some (Does number a) → Lawful O (moved O k number a w))
      (k number : ℕ) where
    -- actor k has ended its job
    abbrev pub HasEnded : World O → Type 0
    HasEnded w = (ended : ActorOf O) × (get_elem? w.actors k ≡ some ended) × IsAvailable O ended

    module _ (w : World O) (a : AttemptOf O) (law : Lawful O w) (there : get_elem? w.actors k ≡ some (Does number a)) (aside : AreAside O is k w.actors) where
      -- the number that its step finds, and the attempt after it
      abbrev found : ℕ
      found = slice_index w.words (place O (act a))

      abbrev after : AttemptOf O
      after = next O k a (slice_index w.words (place O (act a)))

      -- each step is one less to make
      one_less : (count enough : ℕ) → IsWithin O is tests seizings effects bounded enough a → IsExact O w.words a.phase → enough ≤ suc count
          → ((less : ℕ) → IsWithin O is tests seizings effects bounded less after → less ≤ count → HasEnded (after_steps O k count (moved O k number a w)))
          → HasEnded (after_steps O k count (moved O k number a w))
      one_less count enough within exact fits later = at (rest_or_not (act a)) where
        at : (act a ≡ Finished) ⊎ (act a ≢ Finished) → HasEnded (after_steps O k count (moved O k number a w))
        at (inl rest) = later 0 (rested_in k found a a.phase refl (law.sound k number a there).valid rest) (omega arith)
        at (inr acts) =
            let sound = law.sound k number a there in
            let one =
            made_one O is tests seizings effects bounded enough a (answer_to O k (act a) found) sound.job sound.valid within
            (answers_fit O k (act a) found acts (law.are_words (place O (act a)))) (steady O is w law k number a there aside exact) in
            later one.less one.within (omega (arith, one.one))

    ends_exact : (count enough : ℕ) (w : World O) (a : AttemptOf O) → Lawful O w → get_elem? w.actors k ≡ some (Does number a) → AreAside O is k w.actors
        → IsWithin O is tests seizings effects bounded enough a → IsExact O w.words a.phase → enough ≤ count → HasEnded (after_steps O k count w)
    ends_exact zero enough w a law there aside within exact fits =
        let none : enough ≡ 0 = omega arith in (
          Does number a,
          there,
          rests_in a a.phase (law.sound k number a there).valid (subst (λ (n : ℕ). IsWithin O is tests seizings effects bounded n a) none within),
        )
    ends_exact (suc count) enough w a law there aside within exact fits =
        subst (λ (next : World O). HasEnded (after_steps O k count next)) (sym (step_is O is w law k number a there aside))
        (one_less w a law there aside count enough within exact fits
        (λ less made below. ends_exact count less (moved O k number a w) (after w a law there aside) (keeps w k number a law there)
        (there_next O is w law k number a there aside) (aside_next O is w law k number a there aside) made (exact_next O is w law k number a there aside)
        below))

    -- the lock's word may be another than it expects, and then the answer to its step has the
    -- right one
    module _ (w : World O) (a : AttemptOf O) (law : Lawful O w) (there : get_elem? w.actors k ≡ some (Does number a)) (aside : AreAside O is k w.actors)
        (count enough : ℕ) (fits : suc enough ≤ count) where
      exact_or_again : (phase : Phase Lock ℕ) → IsValidIn O a phase → WithinIn O is tests seizings effects bounded enough a phase
          → IsExact O w.words phase
          ⊎ IsWithin O is tests seizings effects bounded enough
          (changed O a phase (answer_to O k (act_in phase a) (slice_index w.words (place O (act_in phase a)))))
      exact_or_again (SeizesNext lock expected) valid room = at (one_or_two (word_at O w.words lock) expected) where
        again : word_at O w.words lock ≢ expected → (b : Bool) → (word_at O w.words lock == expected) ≡ b
            → IsWithin O is tests seizings effects bounded enough
            (changed O a (SeizesNext lock expected) (if b then Seized else unless_denied (Again (word_at O w.words lock))
            (sharing.judged k (word_at O w.words lock))))
        again other true e = absurd (other (eqb-true (word_at O w.words lock) expected e))
        again other false e =
            subst (λ (j : Judgement). IsWithin O is tests seizings effects bounded enough
            (changed O a (SeizesNext lock expected) (unless_denied (Again (word_at O w.words lock)) j)))
            (sym (free_again O is w law k number a there aside room.read lock valid))
            (room_more O is tests seizings effects bounded (suc enough) (suc enough) (record a { phase = SeizesNext lock (word_at O w.words lock) })
            (omega arith) (record { more_tests = room.more_tests; more_seizings = room.more_seizings; read = room.read; asks = room.asks; fits = room.fits }))

        at : (word_at O w.words lock ≡ expected) ⊎ (word_at O w.words lock ≢ expected)
            → IsExact O w.words (SeizesNext lock expected)
            ⊎ IsWithin O is tests seizings effects bounded enough
            (changed O a (SeizesNext lock expected) (answer_to O k (act_in (SeizesNext lock expected) a) (word_at O w.words lock)))
        at (inl exact) = inl exact
        at (inr other) = inr (again other (word_at O w.words lock == expected) refl)
      exact_or_again (Requests lock) valid room = inl tt
      exact_or_again (TestsNext word) valid room = inl tt
      exact_or_again Turns valid within = inl tt
      exact_or_again (Withdraws lock) valid within = inl tt
      exact_or_again GivesBack valid within = inl tt
      exact_or_again (Operates turn) valid within = inl tt

    stepped_more : (count : ℕ) (w : World O) (a : AttemptOf O) (enough : ℕ) → Lawful O w → get_elem? w.actors k ≡ some (Does number a)
        → AreAside O is k w.actors → suc enough ≤ count
        → IsWithin O is tests seizings effects bounded enough (next O k a (slice_index w.words (place O (act a)))) → HasEnded (after_steps O k count w)
    stepped_more zero w a enough law there aside fits within = absurd (omega arith)
    stepped_more (suc count) w a enough law there aside fits within =
        subst (λ (next : World O). HasEnded (after_steps O k count next)) (sym (step_is O is w law k number a there aside))
        (ends_exact count enough (moved O k number a w) (after w a law there aside) (keeps w k number a law there)
        (there_next O is w law k number a there aside) (aside_next O is w law k number a there aside) within (exact_next O is w law k number a there aside)
        (omega arith))

    -- it ends within a whole job's steps, besides what it holds, and two
    pub alone_ends : (w : World O) (a : AttemptOf O) (count : ℕ) → Lawful O w → get_elem? w.actors k ≡ some (Does number a) → AreAside O is k w.actors
        → 2 + length a.held + whole_job O is tests seizings effects bounded ≤ count → HasEnded (after_steps O k count w)
    alone_ends w a count law there aside fits =
        let sound = law.sound k number a there in
        let enough = 1 + length a.held + whole_job O is tests seizings effects bounded in
        let within = within_anywhere O is tests seizings effects bounded w k number a law.are_words sound in
        elim (exact_or_again w a law there aside count enough (omega arith) a.phase sound.valid within) [
          | inl exact ↦ ends_exact count enough w a law there aside within exact (omega arith)
          | inr again ↦ stepped_more count w a enough law there aside (omega arith) again
        ]
