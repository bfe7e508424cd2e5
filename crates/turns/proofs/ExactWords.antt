-- an answer is of its step's kind, and after a step what is expected of a lock's word is what the
-- word has
use Rattle.std.proofs.Common.{◌≡◌, ◌≢◌, ℕ, ◌<◌, ◌^◌, ◌⊎◌, Bool, true, false, List, [], ◌∷◌, ◌++◌, length, slice_set, slice_index, inl, inr, refl, sym, ◌∙◌, ap}
use Rattle.std.proofs.Common.{subst, ◌==◌, ◌||◌, Option, Some, None, Result, Ok, Err, if◌then◌else◌}
use Rattle.turns.specs.{Among.IsIn, Seen.{Seen, AreReadWords}}
use Rattle.turns.specs.Script.{Script, Ends, TestThen, SeizeThen, is_held, value_read, left, left_of_test, left_of_seizing, first_wanted, walk}
use Rattle.turns.specs.{Sharing.with_request, System.System, Attempt.{AttemptOf, IsAnswer, IsAnswerTo, IsValidIn, act_in, answer_to, changed, closing_act}}
use Rattle.turns.specs.Attempt.{denied, forgotten, walk_result, free_act, giving_back, goes_on, operated, read_in, rest_of, unless_denied}
use Rattle.turns.specs.declared.{act.Act.Act, answer.Answer.{Answer, TheVariants.{Asked, Seized, Again, Done}}, judgement.Judgement.Judgement}
use Rattle.turns.specs.declared.phase.Phase.{Phase, TheVariants.{Requests, Seizes as SeizesNext, Tests as TestsNext, Turns, Withdraws, GivesBack, Operates}}
use Rattle.turns.{specs.{declared.wanted.Wanted.{Wanted, TheVariants.{Seize, Test}}, World.{becomes, place}, Law.word_at}, proofs.Lists.index_same}
use Rattle.turns.specs.declared.act.Act.TheVariants as act_is
use Rattle.turns.specs.declared.judgement.Judgement.TheVariants as judgement

module _ {Lock : Type 0} (same : Lock → Lock → Bool) where
  -- a lock that is held passes the test for held locks
  pub held_of : (held : List Lock) (lock : Lock) → ((l : Lock) → same l l ≡ true) → IsIn lock held → is_held same held lock ≡ true
  unfolding is_held
  held_of [] lock self within = absurd within
  held_of (own ∷ held) lock self (inl e) = ap (λ b. b || is_held same held lock) (ap (same own) e ∙ self own)
  held_of (own ∷ held) lock self (inr later) = ap (λ b. same own lock || b) (held_of held lock self later) ∙ or_true (same own lock) where
    or_true : (b : Bool) → (b || true) ≡ true
    or_true true = refl
    or_true false = refl

  -- a lock that a walk needs next is not held
  pub wanted_bare : {A : Type 0} (seen : Seen Lock) (lock : Lock) (script : Script Lock A) → walk same seen script ≡ Err (Seize lock)
      → is_held same seen.held lock ≡ false
  unfolding walk left left_of_test left_of_seizing first_wanted
  wanted_bare seen lock (Ends found) e = absurd cc
  wanted_bare seen lock (TestThen word script) e = at (value_read seen.readings word) (λ value. wanted_bare seen lock (script value)) e where
    at : (o : Option ℕ) → ((value : ℕ) → walk same seen (script value) ≡ Err (Seize lock) → is_held same seen.held lock ≡ false)
        → first_wanted (left_of_test script (λ value. left same seen (script value)) word o) ≡ Err (Seize lock) → is_held same seen.held lock ≡ false
    at None later e = absurd cc
    at (Some value) later e = later value e
  wanted_bare seen lock (SeizeThen other script) e = at (is_held same seen.held other) refl (wanted_bare seen lock script) e where
    at : (b : Bool) → is_held same seen.held other ≡ b → (walk same seen script ≡ Err (Seize lock) → is_held same seen.held lock ≡ false)
        → first_wanted (left_of_seizing script (left same seen script) other b) ≡ Err (Seize lock) → is_held same seen.held lock ≡ false
    at false own later e = let one : other ≡ lock = cc in ap (is_held same seen.held) (sym one) ∙ own
    at true own later e = later e

pub rest_or_not : {Lock Effect : Type 0} (step : Act Lock Effect) → (step ≡ act_is.Finished) ⊎ (step ≢ act_is.Finished)
rest_or_not act_is.Finished = inl refl
rest_or_not (act_is.Request lock) = inr (λ e. absurd cc)
rest_or_not (act_is.Seize lock expected) = inr (λ e. absurd cc)
rest_or_not (act_is.Withdraw lock) = inr (λ e. absurd cc)
rest_or_not (act_is.Free lock) = inr (λ e. absurd cc)
rest_or_not (act_is.Test word) = inr (λ e. absurd cc)
rest_or_not act_is.Turn = inr (λ e. absurd cc)
rest_or_not (act_is.Make effect) = inr (λ e. absurd cc)

module _ (O : System) where
  open O use {Lock, Effect, Decision, IsLock, sharing}

  -- an answer is of the step's kind, and a value that was tested fits a word
  told_asked : (lock : Lock) (found word : ℕ) (asks : Bool) (j here : Judgement) → sharing.asks ≡ asks
      → IsAnswer O (act_is.Request lock) (if asks then unless_denied (Asked word) j else unless_denied Seized here)
  told_asked lock found word true judgement.Free here e = e
  told_asked lock found word true (judgement.Held holder) here e = tt
  told_asked lock found word true (judgement.Preferred other) here e = tt
  told_asked lock found word false j judgement.Free e = e
  told_asked lock found word false j (judgement.Held holder) e = tt
  told_asked lock found word false j (judgement.Preferred other) e = tt

  told_taken : (lock : Lock) (expected word : ℕ) (b : Bool) (j : Judgement)
      → IsAnswerTo {Effect = Effect} (act_is.Seize lock expected) (if b then Seized else unless_denied (Again word) j)
  told_taken lock expected word true j = tt
  told_taken lock expected word false judgement.Free = tt
  told_taken lock expected word false (judgement.Held holder) = tt
  told_taken lock expected word false (judgement.Preferred other) = tt

  pub answers_fit : (k : ℕ) (step : Act Lock Effect) (found : ℕ) → step ≢ act_is.Finished → found < 2 ^ 64 → IsAnswer O step (answer_to O k step found)
  answers_fit k act_is.Finished found acts below = absurd (acts refl)
  answers_fit k (act_is.Request lock) found acts below =
      told_asked lock found (with_request sharing k found) sharing.asks (sharing.judged k (with_request sharing k found)) (sharing.judged k found) refl
  answers_fit k (act_is.Seize lock expected) found acts below = told_taken lock expected found (found == expected) (sharing.judged k found)
  answers_fit k (act_is.Withdraw lock) found acts below = tt
  answers_fit k (act_is.Free lock) found acts below = tt
  answers_fit k (act_is.Test word) found acts below = below
  answers_fit k act_is.Turn found acts below = tt
  answers_fit k (act_is.Make effect) found acts below = tt

  -- what is expected of a lock's word is what it has
  abbrev pub IsExact : List ℕ → Phase Lock ℕ → Type 0
  IsExact words (SeizesNext lock expected) = word_at O words lock ≡ expected
  IsExact words (Requests lock) = Unit {0}
  IsExact words (TestsNext word) = Unit {0}
  IsExact words Turns = Unit {0}
  IsExact words (Withdraws lock) = Unit {0}
  IsExact words GivesBack = Unit {0}
  IsExact words (Operates turn) = Unit {0}

  exact_on : (words : List ℕ) (a : AttemptOf O) (to : Result Decision (Wanted Lock ℕ)) → IsExact words (goes_on O a to).phase
  exact_on words a (Ok decision) = tt
  exact_on words a (Err (Seize lock)) = tt
  exact_on words a (Err (Test word)) = tt

  exact_freed : (words : List ℕ) (a : AttemptOf O) (held : List Lock) → IsExact words (giving_back O a held).phase
  exact_freed words a [] = tt
  exact_freed words a (lock ∷ held) = tt

  exact_operated : (words : List ℕ) (a : AttemptOf O) (turn : ℕ) (effects : List Effect) → a.phase ≡ Operates turn → IsExact words (operated a effects).phase
  exact_operated words a turn [] at = subst (IsExact words) (sym at) tt
  exact_operated words a turn (effect ∷ effects) at = subst (IsExact words) (sym at) tt

  pub free_done : (k found : ℕ) (held : List Lock) → answer_to O k (free_act held) found ≡ Done
  free_done k found [] = refl
  free_done k found (lock ∷ held) = refl

  pub closing_done : (k found : ℕ) (effects : List Effect) (held : List Lock) → answer_to O k (closing_act effects held) found ≡ Done
  closing_done k found [] held = free_done k found held
  closing_done k found (effect ∷ effects) held = refl

  module _ (k : ℕ) (words : List ℕ) (a : AttemptOf O) where
    -- the number that a step finds, the answer to it, and the words after it
    abbrev pub found_by : Act Lock Effect → ℕ
    found_by step = slice_index words (place O step)

    abbrev pub words_after : Act Lock Effect → List ℕ
    words_after step = slice_set words (place O step) (becomes O k step (found_by step))

    exact_denied : (asks : Bool) (lock : Lock) (after : List ℕ) → IsExact after (if asks then denied a lock else giving_back O (forgotten a) a.held).phase
    exact_denied true lock after = tt
    exact_denied false lock after = exact_freed after (forgotten a) a.held

    exact_asked : (asks : Bool) (lock : Lock) (word : ℕ) (j here : Judgement) (after : List ℕ) → word_at O after lock ≡ word
        → IsExact after (changed O a (Requests lock) (if asks then unless_denied (Asked word) j else unless_denied Seized here)).phase
    exact_asked true lock word judgement.Free here after e = e
    exact_asked true lock word (judgement.Held holder) here after e = exact_denied sharing.asks lock after
    exact_asked true lock word (judgement.Preferred other) here after e = exact_denied sharing.asks lock after
    exact_asked false lock word j judgement.Free after e = let b : AttemptOf O = record a { held = a.held ++ lock ∷ [] } in exact_on after b (walk_result O b)
    exact_asked false lock word j (judgement.Held holder) after e = exact_denied sharing.asks lock after
    exact_asked false lock word j (judgement.Preferred other) after e = exact_denied sharing.asks lock after

    exact_again : (lock : Lock) (expected word : ℕ) (j : Judgement) (after : List ℕ) → word_at O after lock ≡ word
        → IsExact after (changed O a (SeizesNext lock expected) (unless_denied (Again word) j)).phase
    exact_again lock expected word judgement.Free after e = e
    exact_again lock expected word (judgement.Held holder) after e = tt
    exact_again lock expected word (judgement.Preferred other) after e = tt

    exact_taken : (lock : Lock) (expected word taken : ℕ) (b : Bool) (j : Judgement) → O.lock_word lock < length words
        → IsExact (slice_set words (O.lock_word lock) (if b then taken else word))
        (changed O a (SeizesNext lock expected) (if b then Seized else unless_denied (Again word) j)).phase
    exact_taken lock expected word taken true j there = let b : AttemptOf O = record a { held = a.held ++ lock ∷ [] } in
        exact_on (slice_set words (O.lock_word lock) taken) b (walk_result O b)
    exact_taken lock expected word taken false j there =
        exact_again lock expected word j (slice_set words (O.lock_word lock) word) (index_same words (O.lock_word lock) word there)

    -- after any step, what is expected of a lock's word is what it has
    pub exact_after : (phase : Phase Lock ℕ) → a.phase ≡ phase → IsValidIn O a phase → AreReadWords (read_in phase a.readings)
        → ((lock : Lock) → AreReadWords a.readings → walk_result O a ≡ Err (Seize lock) → O.lock_word lock < length words) →
        IsExact (words_after (act_in phase a)) (changed O a phase (answer_to O k (act_in phase a) (found_by (act_in phase a)))).phase
    exact_after (Requests lock) at valid read there =
        let v = with_request sharing k (word_at O words lock) in
        exact_asked sharing.asks lock v (sharing.judged k v) (sharing.judged k (word_at O words lock)) (slice_set words (O.lock_word lock) v)
        (index_same words (O.lock_word lock) v (there lock read valid))
    exact_after (SeizesNext lock expected) at valid read there =
        let found = word_at O words lock in
        exact_taken lock expected found (sharing.taken k expected) (found == expected) (sharing.judged k found) (there lock read valid)
    exact_after (TestsNext word) at valid read there = let b : AttemptOf O =
        record a { readings = a.readings ++ record { word = word; value = slice_index words word } ∷ [] } in
        exact_on (words_after (act_is.Test word)) b (walk_result O b)
    exact_after Turns at valid read there = tt
    exact_after (Withdraws lock) at valid read there = exact_freed (words_after (act_is.Withdraw lock)) a a.held
    exact_after GivesBack at valid read there =
        subst (λ (x : Answer). IsExact (words_after (free_act a.held)) (changed O a GivesBack x).phase) (sym (free_done k (found_by (free_act a.held)) a.held))
        (exact_freed (words_after (free_act a.held)) a (rest_of a.held))
    exact_after (Operates turn) at valid read there =
        let step : Act Lock Effect = closing_act a.effects a.held in
        subst (λ (x : Answer). IsExact (words_after step) (changed O a (Operates turn) x).phase) (sym (closing_done k (found_by step) a.effects a.held))
        (exact_operated (words_after step) a turn a.effects at)
