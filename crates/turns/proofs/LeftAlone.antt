-- an actor that is left alone: each of its steps is steady, and it ends its job
use Rattle.std.proofs.Common.{◌≡◌, ◌≢◌, ℕ, zero, suc, ◌<◌, ◌⊎◌, Bool, true, false, List, slice_index, inl, inr, refl, sym, ◌∙◌, ap, subst, arith, Some, None}
use Rattle.std.proofs.Common.{Err, if◌then◌else◌, eq-eqb, true≢false}
use mathlib.Core.Option.{some, some-injective}
use lib.ListN.{get_elem?}
use Rattle.turns.specs.{Among.IsIn, Seen.AreReadWords, Sharing.with_request, System.{System, IsSystem}, Attempt.{AttemptOf, IsValidIn, act, act_in, answer_to}}
use Rattle.turns.specs.Attempt.{closing_act, walk_result, free_act, next, read_in, request_in, seen_of, unless_denied}
use Rattle.turns.specs.{World.{World, ActorOf, Does, moved, place}, Law.{Holds, HasRequested, Lawful, holder_at, word_at}, Runs.{after_move, stepped_at, Steps}}
use Rattle.turns.specs.{Bounds.{IsAside, IsSteady}, declared.{answer.Answer.{Answer, TheVariants.{Asked, Seized, Again}}, judgement.Judgement.Judgement}}
use Rattle.turns.specs.declared.phase.Phase.{Phase, TheVariants.{Requests, Seizes as SeizesNext, Tests as TestsNext, Turns, Withdraws, GivesBack, Operates}}
use Rattle.turns.{specs.declared.wanted.Wanted.TheVariants.Seize, proofs.{Lists.{one_or_two, set_here, set_else, there_below}, Standing.wanted_lock}}
use Rattle.turns.proofs.{Sound.are_read, ExactWords.{held_of, wanted_bare, IsExact, free_done, closing_done, exact_after}}
use Rattle.turns.specs.declared.judgement.Judgement.TheVariants as judgement

module _ (O : System) (is : IsSystem O) where
  open O use {Lock, Effect, IsLock, sharing}

  -- every actor but k is out of the way
  abbrev pub AreAside : ℕ → List (ActorOf O) → Type 0
  AreAside k actors = (j : ℕ) (m : ActorOf O) → ¬ (j ≡ k) → get_elem? actors j ≡ some m → IsAside O m

  module _ (w : World O) (law : Lawful O w) (k number : ℕ) (a : AttemptOf O) (there : get_elem? w.actors k ≡ some (Does number a))
      (aside : AreAside k w.actors) where
    few : k < sharing.most
    few = let below = there_below w.actors k (Does number a) there in omega (arith, law.few)

    pub does_same : (j other : ℕ) (b : AttemptOf O) → j ≡ k → get_elem? w.actors j ≡ some (Does other b) → b ≡ a
    does_same j other b one e =
        let same : some (Does other b) ≡ some (Does number a) = sym e ∙ ap (λ (i : ℕ). get_elem? w.actors i) one ∙ there in
        let these : Does other b ≡ Does number a = some-injective (Does other b) (Does number a) same in
        cc

    -- a lock's word names none but actor k, and none but actor k has a request in it
    named_mine : (lock : Lock) (j : ℕ) → IsLock lock → holder_at O w.words lock ≡ suc j → IsIn lock a.held
    named_mine lock j right e = at (one_or_two j k) where
      holds : Holds O w.actors j lock
      holds = (law.shared lock right).named j e

      at : (j ≡ k) ⊎ (j ≢ k) → IsIn lock a.held
      at (inl one) = subst (λ (b : AttemptOf O). IsIn lock b.held) (does_same j holds.number holds.attempt one holds.does) holds.held
      at (inr other) = absurd (subst (IsIn lock) (aside j (Does holds.number holds.attempt) other holds.does).0 holds.held)

    asked_mine : (lock : Lock) (j : ℕ) → IsLock lock → j < sharing.most → sharing.requests j (word_at O w.words lock) ≡ true → j ≡ k
    asked_mine lock j right below e = at (one_or_two j k) where
      requested : HasRequested O w.actors j lock
      requested = ((law.shared lock right).requested j below).made e

      at : (j ≡ k) ⊎ (j ≢ k) → j ≡ k
      at (inl one) = one
      at (inr other) =
          let none : request_in requested.attempt.phase ≡ None = (aside j (Does requested.number requested.attempt) other requested.does).1 in
          let some_lock : request_in requested.attempt.phase ≡ Some lock = requested.requests in
          absurd cc

    module _ (read : AreReadWords a.readings) (lock : Lock) (wants : walk_result O a ≡ Err (Seize lock)) where
      right : IsLock lock
      right = wanted_lock O is a lock (law.sound k number a there).job read wants

      -- nobody holds the lock that it needs
      nobody : sharing.holder (word_at O w.words lock) ≡ 0
      nobody = at (sharing.holder (word_at O w.words lock)) refl where
        at : (n : ℕ) → sharing.holder (word_at O w.words lock) ≡ n → sharing.holder (word_at O w.words lock) ≡ 0
        at zero e = e
        at (suc j) e =
            absurd (true≢false (sym (held_of O.same a.held lock (λ l. (is.same l l).1 refl) (named_mine lock j right e))
            ∙ wanted_bare O.same (seen_of a) lock (O.script a.job) wants))

      -- so it may go on, when it requests or when its request is pending
      free_asked : sharing.asks ≡ true → sharing.judged k (with_request sharing k (word_at O w.words lock)) ≡ judgement.Free
      free_asked asks =
          let shared = law.shared lock right in
          let word = word_at O w.words lock in
          is.sharing.alone_free k (with_request sharing k word) few (is.sharing.asked_is k word asks few shared.is_word)
          (is.sharing.asked_holder k word asks few shared.is_word ∙ nobody)
          (λ j below e. elim (is.sharing.asked_requests k word asks few shared.is_word j below e)
          [ inl one ↦ one | inr stood ↦ asked_mine lock j right below stood ])

      pub free_again : sharing.judged k (word_at O w.words lock) ≡ judgement.Free
      free_again = is.sharing.alone_free k (word_at O w.words lock) few (law.shared lock right).is_word nobody (λ j below e. asked_mine lock j right below e)

    -- what it has read fits its words
    still_read : AreReadWords (read_in a.phase a.readings)
    still_read = are_read O w.words a.held (read_in a.phase a.readings) law.are_words (law.sound k number a there).read

    -- its step's answer is steady if what it expects is what there is
    abbrev answer_in : Phase Lock ℕ → Answer
    answer_in phase = answer_to O k (act_in phase a) (slice_index w.words (place O (act_in phase a)))

    steady_in : (phase : Phase Lock ℕ) → IsValidIn O a phase → AreReadWords (read_in phase a.readings) → IsExact O w.words phase → IsSteady (answer_in phase)
    steady_in (Requests lock) valid read exact = steady_request sharing.asks refl where
      word : ℕ
      word = word_at O w.words lock

      steady_request : (asks : Bool) → sharing.asks ≡ asks
          → IsSteady (if asks then unless_denied (Asked (with_request sharing k word)) (sharing.judged k (with_request sharing k word)) else unless_denied
          Seized (sharing.judged k word))
      steady_request true e =
          subst (λ (j : Judgement). IsSteady (unless_denied (Asked (with_request sharing k word)) j)) (sym (free_asked read lock valid e)) tt
      steady_request false e = subst (λ (j : Judgement). IsSteady (unless_denied Seized j)) (sym (free_again read lock valid)) tt
    steady_in (SeizesNext lock expected) valid read exact =
        subst (λ (b : Bool). IsSteady (if b then Seized else unless_denied (Again (word_at O w.words lock)) (sharing.judged k (word_at O w.words lock))))
        (sym (eq-eqb (word_at O w.words lock) expected exact)) tt
    steady_in (TestsNext word) valid read exact = tt
    steady_in Turns valid read exact = tt
    steady_in (Withdraws lock) valid read exact = tt
    steady_in GivesBack valid read exact = subst IsSteady (sym (free_done O k (slice_index w.words (place O (free_act a.held))) a.held)) tt
    steady_in (Operates turn) valid read exact =
        subst IsSteady (sym (closing_done O k (slice_index w.words (place O (closing_act a.effects a.held))) a.effects a.held)) tt

    pub steady : IsExact O w.words a.phase → IsSteady (answer_to O k (act a) (slice_index w.words (place O (act a))))
    steady exact = steady_in a.phase (law.sound k number a there).valid still_read exact

    -- after its step what it expects is what there is, and the others are still out of the way
    pub exact_next : IsExact O (moved O k number a w).words (next O k a (slice_index w.words (place O (act a)))).phase
    exact_next =
        exact_after O k w.words a a.phase refl (law.sound k number a there).valid still_read
        (λ lock read wants. let below = is.words.lock_word_there lock (wanted_lock O is a lock (law.sound k number a there).job read wants) in
        omega (arith, law.size))

    pub there_next : get_elem? (moved O k number a w).actors k ≡ some (Does number (next O k a (slice_index w.words (place O (act a)))))
    there_next = set_here w.actors k (Does number (next O k a (slice_index w.words (place O (act a))))) (Does number a) there

    pub aside_next : AreAside k (moved O k number a w).actors
    aside_next j m other e = aside j m other (sym (set_else w.actors k j (Does number (next O k a (slice_index w.words (place O (act a))))) other) ∙ e)

    pub step_is : after_move O w (Steps k) ≡ moved O k number a w
    step_is = ap (λ o. stepped_at O k o w) there
