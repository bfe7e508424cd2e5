-- several predictions that are validated at once; and steps past the turn, which have no
-- predictions
use Rattle.std.proofs.Common.{◌≡◌, ◌<◌, ◌≤◌, ℕ, zero, suc, ◌+◌, Bool, List, [], ◌∷◌, inl, inr, length, refl, sym, ◌∙◌, ap, subst, arith, Option, Some, None}
use Rattle.std.proofs.Common.{drop, take, option_map}
use Rattle.turns.specs.{Among.IsIn, Attempt.{change, operated}, Seen.{Seen, AreReadWords}, System.System, World.place}
use Rattle.turns.specs.declared.{answer.Answer.TheVariants.{Done, Value}, phase.Phase.{Phase, TheVariants.{Tests, Operates}}, reading.Reading.Reading}
use Rattle.{desks.specs.Predictions.{TestsNext, read_on}, desk_attempts.specs.Speculation.{Speculation, ResumePointIsValidBy, IsValidSpeculation, predicted_of}}
use Rattle.desk_attempts.{specs.Speculation.{predictions, validated_of, now_by, now_of, waiting}, proofs.Confirmed.{confirmed, more_guessed}}
use Rattle.attempts.specs.{Validity.{AreScripts, IsValidInBounds, ResumePointIsValidIn, AttemptView, attempt_of}, SystemWith.{SystemWith, system_with}}
use Rattle.attempts.proofs.Places.{place_change, place_there}
use Rattle.turns.specs.Attempt as generic

-- predictions fit 64 bits if all readings do
in_dropped : {A : Type 0} (made : ℕ) (items : List A) (first : A) → IsIn first (drop made items) → IsIn first items
in_dropped zero [] first within = absurd within
in_dropped zero (item ∷ items) first within = within
in_dropped (suc made) [] first within = absurd within
in_dropped (suc made) (item ∷ items) first within = inr (in_dropped made items first within)

in_guesses : (validated : Option ℕ) (readings : List (Reading ℕ)) (first : Reading ℕ) (rest : List (Reading ℕ)) → predicted_of validated readings ≡ first ∷ rest
    → IsIn first readings
in_guesses None readings first rest is = absurd cc
in_guesses (Some made) readings first rest is = in_dropped made readings first (subst (λ (l : List (Reading ℕ)). IsIn first l) (sym is) (inl refl))

counted_on : (validated : Option ℕ) (made : ℕ)
    → option_map (λ before. before + suc made) validated ≡ option_map (λ before. before + made) (option_map (λ before. before + 1) validated)
counted_on None made = refl
counted_on (Some before) made = let e : before + suc made ≡ before + 1 + made = omega arith in ap Some e

counted_none : (validated : Option ℕ) → option_map (λ before. before + 0) validated ≡ validated
counted_none None = refl
counted_none (Some before) = let e : before + 0 ≡ before = omega arith in ap Some e

module _ {Lock Job Reply Effect Decision ResumePoint : Type 0} (same : Lock → Lock → Bool) (reply_of : Decision → Reply) (effects_of : Decision → List Effect)
    (S : SystemWith Lock Job Reply Effect Decision) (ResumePointIsValid : Job → ResumePoint → Seen Lock → Type 0) where
  abbrev O : System
  O = system_with same reply_of effects_of S

  abbrev Doing : Type 0
  Doing = AttemptView Lock Job Decision ResumePoint

  abbrev outside : Doing → generic.AttemptOf O
  outside p = attempt_of reply_of effects_of p

  abbrev KnowsHere : Doing → Option ℕ → List (Reading ℕ) → Type 0
  KnowsHere predicted validated l = ResumePointIsValidBy same reply_of effects_of S ResumePointIsValid predicted validated l

  module _ (R H : ℕ) (are : AreScripts same reply_of effects_of S ResumePointIsValid R H) where
    abbrev StandsHere : Speculation Lock Job Decision ResumePoint → Type 0
    StandsHere p = IsValidSpeculation same reply_of effects_of S ResumePointIsValid R H p

    abbrev now : Speculation Lock Job Decision ResumePoint → generic.AttemptOf O
    now p = now_of reply_of effects_of p

    -- the count doesn't matter to what it is
    recounted : (predicted : Doing) (count : ℕ) (validated : Option ℕ) (l : List (Reading ℕ))
        → now_by reply_of effects_of (record predicted { count = count }) validated l ≡ now_by reply_of effects_of predicted validated l
    recounted predicted count validated [] = refl
    recounted predicted count validated (first ∷ rest) = refl

    knows_recounted : (predicted : Doing) (count : ℕ) (validated : Option ℕ) (l : List (Reading ℕ)) → KnowsHere predicted validated l
        → KnowsHere (record predicted { count = count }) validated l
    knows_recounted predicted count validated [] valid_point = valid_point
    knows_recounted predicted count validated (first ∷ rest) valid_point = record {
      all = valid_point.all;
      found = valid_point.found;
      predicts = valid_point.predicts;
      comes = valid_point.comes;
      valid_point = valid_point.valid_point;
    }

    pub record Confirms (to : generic.AttemptOf O) (new : Speculation Lock Job Decision ResumePoint) : Type 0 where
      pub now_is : now new ≡ to
      pub valid : StandsHere new

    stays : (old new : Speculation Lock Job Decision ResumePoint) → StandsHere old → new.predicted ≡ record old.predicted { count = new.predicted.count }
        → new.validated ≡ old.validated → Confirms (now old) new
    stays old new valid far_is sure_is =
        let predicted : Doing = record old.predicted { count = new.predicted.count } in
        let is : new ≡ record { predicted = predicted; validated = old.validated } = λ i. record { predicted = far_is i; validated = sure_is i } in
        let same_now : now (record { predicted = predicted; validated = old.validated }) ≡ now old =
        recounted old.predicted new.predicted.count old.validated (predictions old) in
        subst (Confirms (now old)) (sym is) (record {
          now_is = same_now;
          valid = record {
            place = subst (IsValidInBounds O R H) (sym same_now) valid.place;
            valid_point = knows_recounted old.predicted new.predicted.count old.validated (predictions old) valid.valid_point;
          };
        })

    -- the first prediction is validated
    one_more : Speculation Lock Job Decision ResumePoint → Speculation Lock Job Decision ResumePoint
    one_more p = record { predicted = p.predicted; validated = option_map (λ before. before + 1) p.validated }

    confirms_one : (p : Speculation Lock Job Decision ResumePoint) (first : Reading ℕ) (rest : List (Reading ℕ)) → AreReadWords p.predicted.readings
        → StandsHere p → predictions p ≡ first ∷ rest → Confirms (change O (now p) (Value first.value)) (one_more p)
    unfolding one_more
    confirms_one p first rest words valid is =
        let by =
        confirmed same reply_of effects_of S ResumePointIsValid R H are p (one_more p) first rest
        (words first (in_guesses p.validated p.predicted.readings first rest is)) valid is refl refl in
        record { now_is = by.0; valid = by.1 }

    guesses_left : (p : Speculation Lock Job Decision ResumePoint) (first : Reading ℕ) (rest : List (Reading ℕ)) → predictions p ≡ first ∷ rest
        → predictions (one_more p) ≡ rest
    unfolding one_more
    guesses_left p first rest is = more_guessed p.validated p.predicted.readings first rest is

    -- the first `made` of them are validated
    pub confirms : (made : ℕ) (old new : Speculation Lock Job Decision ResumePoint) → AreReadWords old.predicted.readings → StandsHere old
        → made ≤ length (predictions old) → new.predicted ≡ record old.predicted { count = new.predicted.count }
        → new.validated ≡ option_map (λ before. before + made) old.validated
        → Confirms (read_on O (now old) (take made (predictions old))) new
    unfolding one_more
    confirms zero old new words valid few far_is sure_is = stays old new valid far_is (sure_is ∙ counted_none old.validated)
    confirms (suc made) old new words valid few far_is sure_is = at (λ mid. confirms made mid new) (predictions old) refl where
      at : ((mid : Speculation Lock Job Decision ResumePoint) → AreReadWords mid.predicted.readings → StandsHere mid → made ≤ length (predictions mid)
          → new.predicted ≡ record mid.predicted { count = new.predicted.count } → new.validated ≡ option_map (λ before. before + made) mid.validated
          → Confirms (read_on O (now mid) (take made (predictions mid))) new)
          → (l : List (Reading ℕ)) → predictions old ≡ l → Confirms (read_on O (now old) (take (suc made) (predictions old))) new
      at from [] is = let none : length (predictions old) ≡ 0 = ap length is in absurd (omega (arith, none, few))
      at from (first ∷ rest) is =
          let mid = one_more old in
          let left : predictions mid ≡ rest = guesses_left old first rest is in
          let long : length (predictions old) ≡ suc (length (predictions mid)) = ap length is ∙ ap (λ (l : List (Reading ℕ)). suc (length l)) (sym left) in
          let one = confirms_one old first rest words valid is in
          let on = from mid words one.valid (omega (arith, long, few)) far_is (sure_is ∙ counted_on old.validated made) in
          record {
            now_is = on.now_is
                ∙ ap (λ (l : List (Reading ℕ)). read_on O (now mid) (take made l)) left
                ∙ ap (λ (a : generic.AttemptOf O). read_on O a (take made rest)) one.now_is
                ∙ ap (λ (l : List (Reading ℕ)). read_on O (now old) (take (suc made) l)) (sym is);
            valid = on.valid;
          }

    -- it tests the words of its predictions, one after another
    pub tests_guesses : (l : List (Reading ℕ)) (p : Speculation Lock Job Decision ResumePoint) → AreReadWords p.predicted.readings → StandsHere p
        → predictions p ≡ l → TestsNext O (now p) l
    unfolding one_more
    tests_guesses [] p words valid is = tt
    tests_guesses (first ∷ rest) p words valid is =
        let waits : now p ≡ waiting Reply Effect p.predicted (validated_of p.validated p.predicted.readings) first.word =
        ap (now_by reply_of effects_of p.predicted p.validated) is in
        let one = confirms_one p first rest words valid is in (
          ap (λ (a : generic.AttemptOf O). a.phase) waits,
          subst (λ (a : generic.AttemptOf O). place O (generic.act a) < S.size) waits (place_there O are.is_system R H are.asks (now p) valid.place),
          subst (λ (a : generic.AttemptOf O). TestsNext O a rest) one.now_is (tests_guesses rest (one_more p) words one.valid (guesses_left p first rest is)),
        )

    -- past its turn it has no predictions
    none_guessed : (p : Speculation Lock Job Decision ResumePoint) (turn : ℕ) → (now p).phase ≡ Operates turn → predictions p ≡ []
    none_guessed p turn at = by (predictions p) refl where
      by : (l : List (Reading ℕ)) → predictions p ≡ l → predictions p ≡ []
      by [] is = is
      by (first ∷ rest) is = let tests : Tests first.word ≡ Operates turn =
          sym (ap (λ (l : List (Reading ℕ)). (now_by reply_of effects_of p.predicted p.validated l).phase) is) ∙ at in absurd cc

    reads_none : (a : generic.AttemptOf O) (effects : List Effect) → (operated a effects).readings ≡ a.readings
    reads_none a [] = refl
    reads_none a (effect ∷ effects) = refl

    knows_turned : (predicted : Doing) (turn : ℕ) (a : generic.AttemptOf O) → predicted.phase ≡ Operates turn
        → ResumePointIsValidIn ResumePointIsValid a predicted.point predicted.phase
    knows_turned predicted turn a at = subst (λ (phase : Phase Lock ℕ). ResumePointIsValidIn ResumePointIsValid a predicted.point phase) (sym at) tt

    pub closes_on : (old new : Speculation Lock Job Decision ResumePoint) (turn : ℕ) → StandsHere old → (now old).phase ≡ Operates turn
        → outside new.predicted ≡ operated (outside old.predicted) (outside old.predicted).effects → new.predicted.phase ≡ old.predicted.phase
        → new.validated ≡ old.validated
        → Confirms (change O (now old) Done) new
    closes_on old new turn valid at operates phase_is sure_is = record { now_is = now_is; valid = record { place = place; valid_point = valid_point } } where
      none : predictions old ≡ []
      none = none_guessed old turn at

      old_is : now old ≡ outside old.predicted
      old_is = ap (now_by reply_of effects_of old.predicted old.validated) none

      far_at : old.predicted.phase ≡ Operates turn
      far_at = sym (ap (λ (a : generic.AttemptOf O). a.phase) old_is) ∙ at

      still : new.predicted.readings ≡ old.predicted.readings
      still = ap (λ (a : generic.AttemptOf O). a.readings) operates ∙ reads_none (outside old.predicted) (outside old.predicted).effects

      none_after : predictions new ≡ []
      none_after = ap (λ (s : Option ℕ). predicted_of s new.predicted.readings) sure_is ∙ ap (predicted_of old.validated) still ∙ none

      now_is : now new ≡ change O (now old) Done
      now_is = ap (now_by reply_of effects_of new.predicted new.validated) none_after ∙ operates
          ∙ ap (λ (phase : Phase Lock ℕ). generic.changed O (outside old.predicted) phase Done) (sym far_at)
          ∙ ap (λ (a : generic.AttemptOf O). change O a Done) (sym old_is)

      place : IsValidInBounds O R H (now new)
      place = subst (IsValidInBounds O R H) (sym now_is) (place_change O are.is_system R H are.asks (now old) Done tt valid.place)

      valid_point : KnowsHere new.predicted new.validated (predictions new)
      valid_point = subst (KnowsHere new.predicted new.validated) (sym none_after) (knows_turned new.predicted turn (outside new.predicted) (phase_is ∙ far_at))
