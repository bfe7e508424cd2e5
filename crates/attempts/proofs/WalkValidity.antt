-- attempts that make steps by their walks stay valid
use Rattle.std.proofs.Common.{◌≡◌, ℕ, zero, suc, ◌+◌, ◌<◌, ◌^◌, List, refl, sym, ◌∙◌, ap, subst, true}
use Rattle.turns.specs.{Attempt.{AttemptOf, IsAnswerTo, IsValidIn, act, walk_result, goes_on, seen_of}, declared.act.Act.{Act, TheVariants.Test}}
use Rattle.turns.specs.{declared.{answer.Answer.{Answer, TheVariants.Value}, phase.Phase.{Phase, TheVariants.{Requests, Tests}}}, Script.{AsksAtMost, walk}}
use Rattle.{turns.specs.{Sharing.IsUnused, System.{AreWords, IsSystem, System}}, attempts.specs.Validity.IsValidInBounds}
use Rattle.attempts.specs.WalkOnWords.{WalkState, WalkOutcome, IsMade, LeadsTo, Moment, continued_by, walk_on_words, stepped, answer_at, WantsNext}
use Rattle.attempts.proofs.{Places.{FitsValue, place_change}, WalkSteps.{held_word, live_steps}}

module _ (O : System) (is : IsSystem O) (R H : ℕ) (asks : (job : O.Job) → O.IsJob job → AsksAtMost R H (O.script job)) where
  open O use {Lock, Decision}

  -- the value of a tested word fits 64 bits
  answer_fits : (step : Act Lock O.Effect) (answer_at : Answer) → IsAnswerTo step answer_at → FitsValue answer_at
  answer_fits (Test word) (Value value) is = is
  answer_fits step (Value value) is = absurd is
  answer_fits step answer_at is = tt

  -- after these steps an attempt is valid, with room for the rest of its script
  pub leads_place : (k count : ℕ) (m last : Moment O) → LeadsTo O k count m last → IsValidInBounds O R H m.attempt → IsValidInBounds O R H last.attempt
  unfolding LeadsTo
  leads_place k zero m last leads placed = subst (λ (x : Moment O). IsValidInBounds O R H x.attempt) leads placed
  leads_place k (suc count) m last leads placed =
      leads_place k count (stepped O k m) last leads.1.1
      (place_change O is R H asks m.attempt (answer_at O k m) (answer_fits (act m.attempt) (answer_at O k m) leads.1.0) placed)

  -- a valid attempt that needs something is where its walk leads
  stands_at : (a : AttemptOf O) (phase : Phase Lock ℕ) → a.phase ≡ phase → WantsNext phase → IsValidIn O a phase → goes_on O a (walk_result O a) ≡ a
  stands_at a (Requests lock) e wants valid = ap (goes_on O a) valid ∙ ap (λ (p : Phase Lock ℕ). record a { phase = p }) (sym e)
  stands_at a (Tests word) e wants valid = ap (goes_on O a) valid ∙ ap (λ (p : Phase Lock ℕ). record a { phase = p }) (sym e)
  stands_at a phase e wants valid = absurd wants

  pub self : (lock : Lock) → O.same lock lock ≡ true
  self lock = (is.same lock lock).1 refl

  module _ (k : ℕ) (few : k < O.sharing.most) (unused : IsUnused O.sharing 0) (asking : O.sharing.asks ≡ true) where
    abbrev pub the_held_word : ℕ
    the_held_word = held_word O self R H k few is.sharing unused asking

    abbrev pub walk_state_of : AttemptOf O → ℕ → WalkState Lock
    walk_state_of a left = record { seen = seen_of a; left = left; held_word = the_held_word }

    abbrev pub comes_of : AttemptOf O → ℕ → List ℕ → WalkOutcome Lock Decision
    comes_of a left words = walk_on_words O.same O.lock_word R H (λ word value. value) (O.script a.job) (walk_state_of a left) words

    -- the attempt and the words after as many steps as its walk can make
    abbrev pub run_on : AttemptOf O → ℕ → List ℕ → Moment O
    run_on a left words = let comes : WalkOutcome Lock Decision = comes_of a left words in
        record { attempt = continued_by O a comes.state comes.found; words = comes.words }

    -- these are as many single steps of the attempt
    pub record Runs (a : AttemptOf O) (left : ℕ) (words : List ℕ) : Type 0 where
      pub made : ℕ
      pub spent : left ≡ made + (comes_of a left words).state.left
      pub steps : LeadsTo O k made (record { attempt = a; words = words }) (run_on a left words)

    pub runs : (a : AttemptOf O) (left : ℕ) (words : List ℕ) → WantsNext a.phase → IsValidIn O a a.phase → AreWords words → the_held_word < 2 ^ 64
        → Runs a left words
    runs a left words wants valid are below = record {
      made = made_so.made;
      spent = made_so.left;
      steps =
          subst (λ (x : AttemptOf O). LeadsTo O k made_so.made (record { attempt = x; words = words }) (run_on a left words))
          (stands_at a a.phase refl wants valid) made_so.steps;
    } where
      made_so : IsMade O k a (walk_state_of a left) words (walk O.same (seen_of a) (O.script a.job)) (comes_of a left words)
      made_so = live_steps O self R H k few is.sharing unused asking a (O.script a.job) (walk_state_of a left) words are below refl (λ more grows. refl)
