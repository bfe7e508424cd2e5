-- predictions that are validated one after another
use Rattle.std.proofs.Common.{◌≡◌, ◌<◌, ◌^◌, ℕ, zero, suc, ◌+◌, Bool, List, [], ◌∷◌, ◌++◌, append_assoc, length, refl, sym, ◌∙◌, ap, subst, arith, Option, Some}
use Rattle.std.proofs.Common.{None, Result, Ok, Err, drop, take, option_map}
use Rattle.turns.specs.{Attempt.{changed, goes_on}, Seen.Seen, System.System, declared.{answer.Answer.TheVariants.Value, phase.Phase.Phase}}
use Rattle.turns.specs.declared.{phase.Phase.TheVariants.Tests, reading.Reading.Reading, wanted.Wanted.{Wanted, TheVariants.{Seize, Test}}}
use Rattle.desk_attempts.specs.Speculation.{Speculation, ArePredictions, Predicts, ResumePointIsValidBy, IsValidSpeculation, predicted_of, predictions}
use Rattle.{desk_attempts.specs.Speculation.{validated_of, now_by, now_of, seen_of, waiting}, attempts.specs.Validity.{AreScripts, IsValidInBounds}}
use Rattle.attempts.{specs.{Validity.{ResumePointIsValidIn, AttemptView, attempt_of}, SystemWith.{SystemWith, system_with}}, proofs.Places.place_change}
use Rattle.turns.specs.Attempt as generic

-- with one more of them validated
pub drop_next : {A : Type 0} (made : ℕ) (items : List A) (first : A) (rest : List A) → drop made items ≡ first ∷ rest → drop (suc made) items ≡ rest
drop_next zero [] first rest is = absurd cc
drop_next zero (item ∷ items) first rest is = ap (drop 1) is
drop_next (suc made) [] first rest is = absurd cc
drop_next (suc made) (item ∷ items) first rest is = drop_next made items first rest is

pub take_next : {A : Type 0} (made : ℕ) (items : List A) (first : A) (rest : List A) → drop made items ≡ first ∷ rest
    → take (suc made) items ≡ take made items ++ first ∷ []
take_next zero [] first rest is = absurd cc
take_next zero (item ∷ items) first rest is = let same : item ≡ first = cc in ap (λ x. x ∷ []) same
take_next (suc made) [] first rest is = absurd cc
take_next {A} (suc made) (item ∷ items) first rest is = ap (λ (l : List A). item ∷ l) (take_next made items first rest is)

pub there_is : {A : Type 0} (made : ℕ) (items : List A) (first : A) (rest : List A) → drop made items ≡ first ∷ rest → made < length items
there_is zero [] first rest is = absurd cc
there_is zero (item ∷ items) first rest is = omega arith
there_is (suc made) [] first rest is = absurd cc
there_is (suc made) (item ∷ items) first rest is = let h = there_is made items first rest is in omega (arith, h)

pub more_guessed : (validated : Option ℕ) (readings : List (Reading ℕ)) (first : Reading ℕ) (rest : List (Reading ℕ))
    → predicted_of validated readings ≡ first ∷ rest → predicted_of (option_map (λ made. made + 1) validated) readings ≡ rest
more_guessed None readings first rest is = absurd cc
more_guessed (Some made) readings first rest is = let one : made + 1 ≡ suc made = omega arith in
    ap (λ (n : ℕ). drop n readings) one ∙ drop_next made readings first rest is

more_made : (validated : Option ℕ) (readings : List (Reading ℕ)) (first : Reading ℕ) (rest : List (Reading ℕ)) → predicted_of validated readings ≡ first ∷ rest
    → validated_of (option_map (λ made. made + 1) validated) readings ≡ validated_of validated readings ++ first ∷ []
more_made None readings first rest is = absurd cc
more_made (Some made) readings first rest is = let one : made + 1 ≡ suc made = omega arith in
    ap (λ (n : ℕ). take n readings) one ∙ take_next made readings first rest is

module _ {Lock Job Reply Effect Decision ResumePoint : Type 0} (same : Lock → Lock → Bool) (reply_of : Decision → Reply) (effects_of : Decision → List Effect)
    (S : SystemWith Lock Job Reply Effect Decision) (ResumePointIsValid : Job → ResumePoint → Seen Lock → Type 0) where
  abbrev O : System
  O = system_with same reply_of effects_of S

  abbrev Doing : Type 0
  Doing = AttemptView Lock Job Decision ResumePoint

  abbrev outside : Doing → generic.AttemptOf O
  outside p = attempt_of reply_of effects_of p

  abbrev at_word : Doing → List (Reading ℕ) → ℕ → generic.AttemptOf O
  at_word p readings word = waiting Reply Effect p readings word

  abbrev Sees : Doing → List (Reading ℕ) → List (Reading ℕ) → Type 0
  Sees predicted made left = ArePredictions same reply_of effects_of S ResumePointIsValid predicted made left

  -- a walk leads to the same whatever was tested last
  from_any : (p : Doing) (readings : List (Reading ℕ)) (one other : ℕ) (found : Result Decision (Wanted Lock ℕ))
      → goes_on O (at_word p readings one) found ≡ goes_on O (at_word p readings other) found
  from_any p readings one other (Ok decision) = refl
  from_any p readings one other (Err (Seize lock)) = refl
  from_any p readings one other (Err (Test word)) = refl

  -- the resume point is valid once the attempt is where its walk leads
  pub knows_there : (predicted : Doing) (found : Result Decision (Wanted Lock ℕ)) → outside predicted ≡ goes_on O (at_word predicted predicted.readings 0) found
      → ResumePointIsValid predicted.job predicted.point (seen_of predicted)
      → ResumePointIsValidIn ResumePointIsValid (outside predicted) predicted.point predicted.phase
  knows_there predicted found comes valid_point =
      subst (λ (phase : Phase Lock ℕ). ResumePointIsValidIn ResumePointIsValid (outside predicted) predicted.point phase)
      (sym (ap (λ (a : generic.AttemptOf O). a.phase) comes)) (at found) where
        at : (found : Result Decision (Wanted Lock ℕ))
            → ResumePointIsValidIn ResumePointIsValid (outside predicted) predicted.point (goes_on O (at_word predicted predicted.readings 0) found).phase
        at (Ok decision) = tt
        at (Err (Seize lock)) = valid_point
        at (Err (Test word)) = valid_point

  -- the first prediction is right
  module _ (predicted : Doing) (made : List (Reading ℕ)) (first : Reading ℕ) where
    abbrev read : List (Reading ℕ)
    read = made ++ first ∷ []

    -- the attempt after the walk by that reading
    abbrev on : generic.AttemptOf O
    on = changed O (at_word predicted made first.word) (Tests first.word) (Value first.value)

    last_comes : Sees predicted made (first ∷ []) → outside predicted ≡ on
    unfolding Predicts
    last_comes sees =
        sees.comes
        ∙ ap (λ (l : List (Reading ℕ)). goes_on O (at_word predicted l 0) sees.found) sees.all
        ∙ from_any predicted read 0 first.word sees.found
        ∙ ap (goes_on O (at_word predicted read first.word)) (sym sees.predicts.1)

    next_comes : (next : Reading ℕ) (rest : List (Reading ℕ)) → Sees predicted made (first ∷ next ∷ rest) → at_word predicted read next.word ≡ on
    unfolding Predicts
    next_comes next rest sees = ap (goes_on O (at_word predicted read first.word)) (sym sees.predicts.1.0)

    next_sees : (next : Reading ℕ) (rest : List (Reading ℕ)) → Sees predicted made (first ∷ next ∷ rest) → Sees predicted read (next ∷ rest)
    unfolding Predicts
    next_sees next rest sees = record {
      all = sees.all ∙ sym (append_assoc made (first ∷ []) (next ∷ rest));
      found = sees.found;
      predicts = sees.predicts.1;
      comes = sees.comes;
      valid_point = sees.valid_point;
    }

  module _ (R H : ℕ) (are : AreScripts same reply_of effects_of S ResumePointIsValid R H) where
    abbrev StandsHere : Speculation Lock Job Decision ResumePoint → Type 0
    StandsHere p = IsValidSpeculation same reply_of effects_of S ResumePointIsValid R H p

    -- what becomes of an attempt when its first prediction is validated
    pub record Confirmed (predicted : Doing) (validated : Option ℕ) (first : Reading ℕ) (old : generic.AttemptOf O) : Type 0 where
      pub change : now_by reply_of effects_of predicted validated (predicted_of validated predicted.readings)
          ≡ changed O old (Tests first.word) (Value first.value)
      pub valid_point : ResumePointIsValidBy same reply_of effects_of S ResumePointIsValid predicted validated (predicted_of validated predicted.readings)

    confirmed_by : (predicted : Doing) (validated : Option ℕ) (made : List (Reading ℕ)) (first : Reading ℕ) (rest : List (Reading ℕ))
        → Sees predicted made (first ∷ rest) → validated_of validated predicted.readings ≡ made ++ first ∷ [] → predicted_of validated predicted.readings ≡ rest
        → Confirmed predicted validated first (at_word predicted made first.word)
    confirmed_by predicted validated made first rest sees made_is left_is = at rest sees left_is where
      at : (rest : List (Reading ℕ)) → Sees predicted made (first ∷ rest) → predicted_of validated predicted.readings ≡ rest
          → Confirmed predicted validated first (at_word predicted made first.word)
      at [] sees left_is = record {
        change = ap (now_by reply_of effects_of predicted validated) left_is ∙ last_comes predicted made first sees;
        valid_point =
            subst (ResumePointIsValidBy same reply_of effects_of S ResumePointIsValid predicted validated) (sym left_is)
            (knows_there predicted sees.found sees.comes sees.valid_point);
      }
      at (next ∷ rest) sees left_is = record {
        change =
            ap (now_by reply_of effects_of predicted validated) left_is ∙ ap (λ (l : List (Reading ℕ)). at_word predicted l next.word) made_is
            ∙ next_comes predicted made first next rest sees;
        valid_point =
            subst (ResumePointIsValidBy same reply_of effects_of S ResumePointIsValid predicted validated) (sym left_is)
            (subst (λ (l : List (Reading ℕ)). Sees predicted l (next ∷ rest)) (sym made_is) (next_sees predicted made first next rest sees));
      }

    -- it goes on by the value that it predicted, which is right
    pub confirmed : (old new : Speculation Lock Job Decision ResumePoint) (first : Reading ℕ) (rest : List (Reading ℕ)) → first.value < 2 ^ 64 → StandsHere old
        → predictions old ≡ first ∷ rest
        → new.predicted ≡ record old.predicted { count = new.predicted.count } → new.validated ≡ option_map (λ made. made + 1) old.validated
        → (now_of reply_of effects_of new ≡ generic.change O (now_of reply_of effects_of old) (Value first.value)) × StandsHere new
    confirmed old new first rest fits valid is far_is sure_is =
        (change, record { place = subst (IsValidInBounds O R H) (sym change) place; valid_point = by.1 }) where
          predicted : Doing
          predicted = record old.predicted { count = new.predicted.count }

          validated : Option ℕ
          validated = option_map (λ made. made + 1) old.validated

          old_is : now_of reply_of effects_of old ≡ at_word old.predicted (validated_of old.validated old.predicted.readings) first.word
          old_is = ap (now_by reply_of effects_of old.predicted old.validated) is

          sees : Sees predicted (validated_of old.validated old.predicted.readings) (first ∷ rest)
          sees = let h : Sees old.predicted (validated_of old.validated old.predicted.readings) (first ∷ rest) =
              subst (ResumePointIsValidBy same reply_of effects_of S ResumePointIsValid old.predicted old.validated) is valid.valid_point in
              record { all = h.all; found = h.found; predicts = h.predicts; comes = h.comes; valid_point = h.valid_point }

          on : Confirmed predicted validated first (at_word predicted (validated_of old.validated old.predicted.readings) first.word)
          on =
              confirmed_by predicted validated (validated_of old.validated old.predicted.readings) first rest sees
              (more_made old.validated old.predicted.readings first rest is) (more_guessed old.validated old.predicted.readings first rest is)

          by : (now_of reply_of effects_of new
              ≡ changed O (at_word old.predicted (validated_of old.validated old.predicted.readings) first.word) (Tests first.word) (Value first.value))
              × ResumePointIsValidBy same reply_of effects_of S ResumePointIsValid new.predicted new.validated (predictions new)
          by = (
            ap (λ (f : Doing). now_by reply_of effects_of f new.validated (predicted_of new.validated f.readings)) far_is
                ∙ ap (λ (s : Option ℕ). now_by reply_of effects_of predicted s (predicted_of s predicted.readings)) sure_is ∙ on.change,
            subst (λ (f : Doing). ResumePointIsValidBy same reply_of effects_of S ResumePointIsValid f new.validated (predicted_of new.validated f.readings))
                (sym far_is) (subst (λ (s : Option ℕ). ResumePointIsValidBy same reply_of effects_of S ResumePointIsValid predicted s
                (predicted_of s predicted.readings)) (sym sure_is) on.valid_point),
          )

          change : now_of reply_of effects_of new ≡ generic.change O (now_of reply_of effects_of old) (Value first.value)
          change = by.0 ∙ ap (λ (a : generic.AttemptOf O). generic.change O a (Value first.value)) (sym old_is)

          place : IsValidInBounds O R H (generic.change O (now_of reply_of effects_of old) (Value first.value))
          place = place_change O are.is_system R H are.asks (now_of reply_of effects_of old) (Value first.value) fits valid.place
