-- attempts that make several steps by one walk
use Rattle.std.specs.Prelude.{◌≡◌, ◌<◌, ◌≤◌, ◌-◌, ◌⊎◌, ℕ, Bool, false, None, List, Result, slice_get, ⊤}
use Rattle.turns.specs.Seen.{Seen}
use Rattle.turns.specs.declared.phase.Phase.{Phase}
use Rattle.turns.specs.declared.phase.Phase.TheVariants.{Requests, Tests, Turns}
use Rattle.turns.specs.declared.wanted.Wanted.{Wanted}
use Rattle.attempts.specs.WalkOnWords.{LeadsTo, Moment, is_unlocked, walk_on_words}
use Rattle.attempts.specs.Validity.{AttemptView, IsValid, attempt_of}
use Rattle.attempts.specs.SystemWith.{SystemWith, system_with}

module _ {Lock : Type 0} (lock_word : Lock → ℕ) (words : List ℕ) where
  -- with `left` steps an attempt can't go on by itself: it is at its turn, its lock isn't free or
  -- takes more than these steps, or its word isn't there or no step is left
  abbrev pub CanRunNoFurther : ℕ → Phase Lock ℕ → Type 0
  CanRunNoFurther left (Requests lock) =
      (left < 2) ⊎ (is_unlocked (slice_get words (lock_word lock)) ≡ false)
  CanRunNoFurther left (Tests word) = (left ≡ 0) ⊎ (slice_get words word ≡ None)
  CanRunNoFurther left Turns = ⊤
  CanRunNoFurther left phase = ⊥

  -- an attempt that requested a lock or tested a word next has gone on as far as it can; any other
  -- has made no step
  abbrev pub RunsFarEnough : ℕ → ℕ → Phase Lock ℕ → Phase Lock ℕ → Type 0
  RunsFarEnough most made (Requests lock) new = CanRunNoFurther (most - made) new
  RunsFarEnough most made (Tests word) new = CanRunNoFurther (most - made) new
  RunsFarEnough most made phase new = made ≡ 0

module _ {Lock Job Reply Effect Decision ResumePoint : Type 0} (same : Lock → Lock → Bool)
    (reply_of : Decision → Reply) (effects_of : Decision → List Effect)
    (S : SystemWith Lock Job Reply Effect Decision)
    (ResumePointIsValid : Job → ResumePoint → Seen Lock → Type 0) where
  -- an attempt with the words that it runs on
  abbrev pub moment : AttemptView Lock Job Decision ResumePoint → List ℕ
      → Moment (system_with same reply_of effects_of S)
  moment p words = record { attempt = attempt_of reply_of effects_of p; words = words }

  -- the attempt has made `made` steps as actor k, at most `most`, as the law has them; it is valid
  -- again, has gone far enough, and the steps aren't counted yet
  pub record Runs (reads seizes k most made : ℕ) (old : AttemptView Lock Job Decision ResumePoint)
      (words : List ℕ) (new : AttemptView Lock Job Decision ResumePoint)
      (after : List ℕ) : Type 0 where
    pub fits : made ≤ most
    pub steps : LeadsTo (system_with same reply_of effects_of S) k made (moment old words)
        (moment new after)
    pub valid : IsValid same reply_of effects_of S ResumePointIsValid reads seizes new
    pub far : RunsFarEnough S.lock_word after most made old.phase new.phase
    pub count : new.count ≡ old.count

-- the attempt has walked with at most `most` steps of its own, writing `held_word` into the words of
-- the locks that it seized: it came to this result, with `left` steps left
pub record WalksBySteps {Lock Job Reply Effect Decision ResumePoint : Type 0}
    (same : Lock → Lock → Bool)
    (S : SystemWith Lock Job Reply Effect Decision)
    (ResumePointIsValid : Job → ResumePoint → Seen Lock → Type 0)
    (reads seizes most held_word : ℕ) (old : AttemptView Lock Job Decision ResumePoint) (words : List ℕ)
    (new : AttemptView Lock Job Decision ResumePoint) (after : List ℕ)
    (found : Result Decision (Wanted Lock ℕ)) (left : ℕ) : Type 0 where
  pub still : new ≡ record old { point = new.point; readings = new.readings; held = new.held }
  pub held_word_then : ℕ
  pub walk : record {
    found = found;
    state = record {
      seen = record { held = new.held; readings = new.readings };
      left = left;
      held_word = held_word_then;
    };
    words = after;
  } ≡ walk_on_words same S.lock_word reads seizes (λ word value. value) (S.script old.job)
      (record {
        seen = record { held = old.held; readings = old.readings };
        left = most;
        held_word = held_word;
      })
      words
  pub valid_point : ResumePointIsValid old.job new.point
      (record { held = new.held; readings = new.readings })
