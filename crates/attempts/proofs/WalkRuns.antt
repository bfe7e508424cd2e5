-- the steps that an attempt makes by its walk, as the code has it
use Rattle.std.proofs.Common.{◌≡◌, ℕ, ◌-◌, ◌<◌, ◌≤◌, ◌^◌, ◌⊎◌, inl, inr, Bool, true, List, length, refl, sym, ◌∙◌, ap, subst, arith, IfSome, None, Option}
use Rattle.std.proofs.Common.{Result, Some, Ok, Err}
use Rattle.turns.specs.{Attempt.{AttemptOf, seen_of}, Seen.Seen, Sharing.{IsUnused, with_request}, Sharings.{preferring, seized_by, sharing_of}}
use Rattle.turns.specs.declared.{lock_sharing.LockSharing.{LockSharing, TheVariants.Preferring}, phase.Phase.{Phase, TheVariants.{Requests, Tests}}}
use Rattle.turns.{specs.{declared.wanted.Wanted.{Wanted, TheVariants.{Seize, Test}}, System.{AreWords, System}}, proofs.Preferring.zero_unused}
use Rattle.attempts.specs.{WalkOnWords.{WalkOutcome, LeadsTo, Moment, WantsNext, continued_by}, Running.{RunsFarEnough, CanRunNoFurther, WalksBySteps}}
use Rattle.attempts.specs.{Validity.{AreScripts, CanWalk, ResumePointIsValidIn, AttemptView, IsValid, attempt_of}, SystemWith.{SystemWith, system_with}}
use Rattle.attempts.{specs.Applied.continued, proofs.{WalkEnds.{Stuck, live_stuck, no_further, no_reading}, WalkValidity.{Runs, comes_of, leads_place, run_on}}}
use Rattle.attempts.proofs.{WalkValidity.{runs, the_held_word}, Places.{fits_request, fits_test}, Applied.{went, went_count, went_point}}
use Rattle.attempts.specs.Running as running

-- the resume point is valid if the attempt needs something next
knows_next : {Lock Job Reply Effect Decision ResumePoint : Type 0} (reply_of : Decision → Reply) (effects_of : Decision → List Effect)
    (ResumePointIsValid : Job → ResumePoint → Seen Lock → Type 0) (p : AttemptView Lock Job Decision ResumePoint) (phase : Phase Lock ℕ) → WantsNext phase
    → ResumePointIsValidIn ResumePointIsValid (attempt_of reply_of effects_of p) p.point phase
    → ResumePointIsValid p.job p.point (seen_of (attempt_of reply_of effects_of p))
knows_next reply_of effects_of ResumePointIsValid p (Requests lock) wants valid_point = valid_point
knows_next reply_of effects_of ResumePointIsValid p (Tests word) wants valid_point = valid_point
knows_next reply_of effects_of ResumePointIsValid p phase wants valid_point = absurd wants

-- if something was needed at first, the attempt goes as far as it can
goes_far : {Lock : Type 0} (lock_word : Lock → ℕ) (words : List ℕ) (most made : ℕ) (old new : Phase Lock ℕ) → WantsNext old
    → CanRunNoFurther lock_word words (most - made) new → RunsFarEnough lock_word words most made old new
goes_far lock_word words most made (Requests lock) new wants ends = ends
goes_far lock_word words most made (Tests word) new wants ends = ends
goes_far lock_word words most made phase new wants ends = absurd wants

module _ {Lock Job Reply Effect Decision ResumePoint : Type 0} (same : Lock → Lock → Bool) (reply_of : Decision → Reply) (effects_of : Decision → List Effect)
    (S : SystemWith Lock Job Reply Effect Decision) (ResumePointIsValid : Job → ResumePoint → Seen Lock → Type 0) (reads seizes : ℕ)
    (are : AreScripts same reply_of effects_of S ResumePointIsValid reads seizes) (is_preferring : S.sharing ≡ Preferring) (k : ℕ) (below_most : k < 48) where
  abbrev O : System
  O = system_with same reply_of effects_of S

  abbrev Doing : Type 0
  Doing = AttemptView Lock Job Decision ResumePoint

  abbrev outside : Doing → AttemptOf O
  outside p = attempt_of reply_of effects_of p

  pub few : k < (sharing_of S.sharing).most
  few = subst (λ (sharing : LockSharing). k < (sharing_of sharing).most) (sym is_preferring) below_most

  pub unused : IsUnused (sharing_of S.sharing) 0
  unused = subst (λ (sharing : LockSharing). IsUnused (sharing_of sharing) 0) (sym is_preferring) zero_unused

  pub asking : (sharing_of S.sharing).asks ≡ true
  asking = ap (λ (sharing : LockSharing). (sharing_of sharing).asks) is_preferring

  -- what it writes into the word of a lock
  abbrev pub seized_word : ℕ
  seized_word = the_held_word O are.is_system reads seizes are.asks k few unused asking

  pub seized_word_is : (word : ℕ) → word ≡ seized_by k (with_request preferring k 0) → word ≡ seized_word
  seized_word_is word is = is ∙ ap (λ (sharing : LockSharing). (sharing_of sharing).taken k (with_request (sharing_of sharing) k 0)) (sym is_preferring)

  module _ (old : Doing) (valid : IsValid same reply_of effects_of S ResumePointIsValid reads seizes old) (wants : WantsNext old.phase) (most : ℕ)
      (words after : List ℕ) (are_words : AreWords words) (below : seized_word < 2 ^ 64) (found : Result Decision (Wanted Lock ℕ)) (mid : Doing) (left : ℕ)
      (by : WalksBySteps same S ResumePointIsValid reads seizes most seized_word old words mid after found left) where
    abbrev comes : WalkOutcome Lock Decision
    comes = comes_of O are.is_system reads seizes are.asks k few unused asking (outside old) most words

    so : Runs O are.is_system reads seizes are.asks k few unused asking (outside old) most words
    so = runs O are.is_system reads seizes are.asks k few unused asking (outside old) most words wants valid.place.comes are_words below

    left_is : left ≡ comes.state.left
    left_is = ap (λ (x : WalkOutcome Lock Decision). x.state.left) by.walk

    -- no more steps are left than there were
    pub left_fits : left ≤ most
    left_fits = omega (arith, left_is, so.spent)

    module _ (new : Doing) (goes : new ≡ continued mid found) where
      abbrev then_seen : Doing
      then_seen = record old { readings = mid.readings; held = mid.held }

      made : new ≡ continued (record then_seen { point = mid.point }) found
      made = goes ∙ ap (λ (x : Doing). continued x found) by.still

      new_is : running.moment same reply_of effects_of S ResumePointIsValid new after
          ≡ run_on O are.is_system reads seizes are.asks k few unused asking (outside old) most words
      new_is =
          ap (λ (a : AttemptOf O). record { attempt = a; words = after })
          (ap outside made ∙ went same reply_of effects_of S ResumePointIsValid then_seen mid.point found)
          ∙ ap (λ (x : WalkOutcome Lock Decision). record { attempt = continued_by O (outside old) x.state x.found; words = x.words }) by.walk

      made_by : so.made ≡ most - left
      made_by = omega (arith, left_is, so.spent)

      leads : LeadsTo O k so.made (running.moment same reply_of effects_of S ResumePointIsValid old words)
          (running.moment same reply_of effects_of S ResumePointIsValid new after)
      leads = subst (λ (m : Moment O). LeadsTo O k so.made (running.moment same reply_of effects_of S ResumePointIsValid old words) m) (sym new_is) so.steps

      stands_new : IsValid same reply_of effects_of S ResumePointIsValid reads seizes new
      stands_new = record {
        place =
            leads_place O are.is_system reads seizes are.asks k so.made (running.moment same reply_of effects_of S ResumePointIsValid old words)
            (running.moment same reply_of effects_of S ResumePointIsValid new after) leads valid.place;
        point =
            subst (λ (x : Doing). ResumePointIsValidIn ResumePointIsValid (outside x) x.point x.phase) (sym made)
            (went_point same reply_of effects_of S ResumePointIsValid then_seen mid.point found by.valid_point);
      }

      phase_is : (f : Result Decision (Wanted Lock ℕ)) → found ≡ f → new.phase ≡ (continued (record then_seen { point = mid.point }) f).phase
      phase_is f e =
          ap (λ (x : Doing). x.phase) made ∙ ap (λ (r : Result Decision (Wanted Lock ℕ)). (continued (record then_seen { point = mid.point }) r).phase) e

      seen_new : (f : Result Decision (Wanted Lock ℕ)) → found ≡ f
          → seen_of (outside new) ≡ seen_of (outside (continued (record then_seen { point = mid.point }) f))
      seen_new f e =
          ap (λ (x : Doing). seen_of (outside x)) made
          ∙ ap (λ (r : Result Decision (Wanted Lock ℕ)). seen_of (outside (continued (record then_seen { point = mid.point }) r))) e

      abbrev more : WalkOutcome Lock Decision
      more = record { found = found; state = record { seen = seen_of (outside mid); left = left; held_word = by.held_word_then }; words = after }

      stuck : Stuck same S.lock_word reads seizes more
      stuck =
          subst (Stuck same S.lock_word reads seizes) (sym by.walk)
          (live_stuck same S.lock_word reads seizes (S.script old.job) (record { seen = seen_of (outside old); left = most; held_word = seized_word }) words)

      ends : (f : Result Decision (Wanted Lock ℕ)) → found ≡ f → CanRunNoFurther S.lock_word after left new.phase
      ends (Ok decision) e = subst (CanRunNoFurther S.lock_word after left) (sym (phase_is (Ok decision) e)) tt
      ends (Err (Seize lock)) e =
          let at : new.phase ≡ Requests lock = phase_is (Err (Seize lock)) e in
          let room : length mid.held < seizes =
          subst (λ (s : Seen Lock). length s.held < seizes) (seen_new (Err (Seize lock)) e)
          (fits_request O are.is_system reads seizes are.asks (outside new) lock at stands_new.place) in
          subst (CanRunNoFurther S.lock_word after left) (sym at) (no_further same S.lock_word reads seizes more lock e room stuck)
      ends (Err (Test word)) e =
          let at : new.phase ≡ Tests word = phase_is (Err (Test word)) e in
          let room : length mid.readings < reads =
          subst (λ (s : Seen Lock). length s.readings < reads) (seen_new (Err (Test word)) e)
          (fits_test O are.is_system reads seizes are.asks (outside new) word at stands_new.place) in
          subst (CanRunNoFurther S.lock_word after left) (sym at) (no_reading same S.lock_word reads seizes more word e room stuck)

      left_again : most - (most - left) ≡ left
      left_again = omega (arith, left_is, so.spent)

      pub runs_on : running.Runs same reply_of effects_of S ResumePointIsValid reads seizes k most (most - left) old words new after
      runs_on = record {
        fits = omega arith;
        steps =
            subst (λ (n : ℕ). LeadsTo O k n (running.moment same reply_of effects_of S ResumePointIsValid old words)
            (running.moment same reply_of effects_of S ResumePointIsValid new after)) made_by leads;
        valid = stands_new;
        far =
            goes_far S.lock_word after most (most - left) old.phase new.phase wants
            (subst (λ (n : ℕ). CanRunNoFurther S.lock_word after n new.phase) (sym left_again) (ends found refl));
        count = ap (λ (x : Doing). x.count) made ∙ went_count same reply_of effects_of S ResumePointIsValid then_seen mid.point found;
      }

module _ {Lock Job Reply Effect Decision ResumePoint : Type 0} (same : Lock → Lock → Bool) (reply_of : Decision → Reply) (effects_of : Decision → List Effect)
    (S : SystemWith Lock Job Reply Effect Decision) (ResumePointIsValid : Job → ResumePoint → Seen Lock → Type 0) (reads seizes : ℕ) where
  -- if it needs something, it can walk
  pub can_walk_next : (p : AttemptView Lock Job Decision ResumePoint) → IsValid same reply_of effects_of S ResumePointIsValid reads seizes p
      → (wanted : Option (Wanted Lock ℕ)) → IfSome wanted (λ w. WantsNext p.phase)
      → IfSome wanted (λ w. CanWalk same reply_of effects_of S ResumePointIsValid p)
  can_walk_next p valid None wants = wants
  can_walk_next p valid (Some wanted) wants = record {
    job = valid.place.job;
    read = valid.place.read;
    valid_point = knows_next reply_of effects_of ResumePointIsValid p p.phase wants valid.point;
  }

-- if it makes no step, nothing changes
pub made_none : (O : System) (k : ℕ) (m : Moment O) → LeadsTo O k 0 m m
unfolding LeadsTo
made_none O k m = refl

pub goes_nowhere : {Lock Job Decision ResumePoint : Type 0} (lock_word : Lock → ℕ) (words : List ℕ) (most : ℕ)
    (p now : AttemptView Lock Job Decision ResumePoint) → p
    ≡ now → ((lock : Lock) → p.phase ≡ Requests lock → ⊥) → ((word : ℕ) → p.phase ≡ Tests word → ⊥) → RunsFarEnough lock_word words most 0 now.phase now.phase
goes_nowhere {Lock} lock_word words most p now inside neither not =
    subst (λ (x : AttemptView _ _ _ _). RunsFarEnough lock_word words most 0 x.phase x.phase) inside (at p.phase neither not) where
      at : (phase : Phase Lock ℕ) → ((lock : Lock) → phase ≡ Requests lock → ⊥) → ((word : ℕ) → phase ≡ Tests word → ⊥)
          → RunsFarEnough lock_word words most 0 phase phase
      at (Requests lock) neither not = absurd (neither lock refl)
      at (Tests word) neither not = absurd (not word refl)
      at phase neither not = refl

pub wants_lock_or_word : {Lock Job Decision ResumePoint : Type 0} (p now : AttemptView Lock Job Decision ResumePoint) → p ≡ now
    → ((lock : Lock) × (p.phase ≡ Requests lock)) ⊎ ((word : ℕ) × (p.phase ≡ Tests word)) → WantsNext now.phase
wants_lock_or_word p now inside (inl (lock, e)) =
    subst (λ (x : AttemptView _ _ _ _). WantsNext x.phase) inside (subst (λ (phase : Phase _ ℕ). WantsNext phase) (sym e) tt)
wants_lock_or_word p now inside (inr (word, e)) =
    subst (λ (x : AttemptView _ _ _ _). WantsNext x.phase) inside (subst (λ (phase : Phase _ ℕ). WantsNext phase) (sym e) tt)

-- whatever is counted
module _ {Lock Job Reply Effect Decision ResumePoint : Type 0} (same : Lock → Lock → Bool) (reply_of : Decision → Reply) (effects_of : Decision → List Effect)
    (S : SystemWith Lock Job Reply Effect Decision) (ResumePointIsValid : Job → ResumePoint → Seen Lock → Type 0) where
  pub leads_counted : (k made : ℕ) (old mid new : AttemptView Lock Job Decision ResumePoint) (words after : List ℕ) {count : ℕ}
      → new ≡ record mid { count = count }
      → LeadsTo (system_with same reply_of effects_of S) k made (running.moment same reply_of effects_of S ResumePointIsValid old words)
      (running.moment same reply_of effects_of S ResumePointIsValid mid after)
      → LeadsTo (system_with same reply_of effects_of S) k made (running.moment same reply_of effects_of S ResumePointIsValid old words)
      (running.moment same reply_of effects_of S ResumePointIsValid new after)
  leads_counted k made old mid new words after counts leads =
      subst (λ (x : AttemptView Lock Job Decision ResumePoint). LeadsTo (system_with same reply_of effects_of S) k made
      (running.moment same reply_of effects_of S ResumePointIsValid old words) (running.moment same reply_of effects_of S ResumePointIsValid x after))
      (sym counts) leads
