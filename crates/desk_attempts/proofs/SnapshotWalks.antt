-- how an attempt makes predictions, drops them, and goes on without any
use Rattle.std.proofs.Common.{◌≡◌, ℕ, Bool, true, false, List, [], ◌∷◌, ◌++◌, append-nil, length, refl, sym, ◌∙◌, ap, subst, Option, Some, None, Result, Ok}
use Rattle.std.proofs.Common.{Err, drop, is_some, take, slice_get, option_map}
use Rattle.turns.specs.{Attempt.{goes_on, restarted, walks_on}, Seen.{AreReadWords, Seen}, System.System, declared.answer.Answer.{Answer, TheVariants.Seized}}
use Rattle.turns.specs.declared.{phase.Phase.{Phase, TheVariants.{Tests, Turns}}, reading.Reading.Reading, wanted.Wanted.{Wanted, TheVariants.{Seize, Test}}}
use Rattle.desk_attempts.specs.Speculation.{Speculation, Predicts, HasWalkedSnapshot, ResumePointIsValidBy, HasPredicted, MayRollBack, MayPredict}
use Rattle.desk_attempts.specs.Speculation.{IsValidSpeculation, predicted_of, predictions, validated_of, now_by, now_of, seen_of, waiting}
use Rattle.desk_attempts.proofs.{SpeculationNow.waits, Confirmed.knows_there, PredictedWalks.{Looked, looked}}
use Rattle.attempts.specs.{Running.WalksBySteps, Validity.{AreScripts, CanWalk, IsValidInBounds, AttemptView, IsValid, attempt_of, effects_left, wanted_phase}}
use Rattle.attempts.{specs.{SystemWith.{SystemWith, system_with}, Applied.{WalksOn, continued}}, proofs.{Applied.acquires, Places.place_change}}
use Rattle.turns.specs.Attempt as generic

module _ {Lock Job Reply Effect Decision ResumePoint : Type 0} (same : Lock → Lock → Bool) (reply_of : Decision → Reply) (effects_of : Decision → List Effect)
    (S : SystemWith Lock Job Reply Effect Decision) (ResumePointIsValid : Job → ResumePoint → Seen Lock → Type 0) where
  abbrev O : System
  O = system_with same reply_of effects_of S

  abbrev Doing : Type 0
  Doing = AttemptView Lock Job Decision ResumePoint

  abbrev Saw : Doing → Doing → Result Decision (Wanted Lock ℕ) → Type 0
  Saw old new found = HasWalkedSnapshot same reply_of effects_of S ResumePointIsValid old new found

  abbrev Looks : Doing → Speculation Lock Job Decision ResumePoint → Type 0
  Looks old new = HasPredicted same reply_of effects_of S ResumePointIsValid old new

  abbrev outside : Doing → generic.AttemptOf O
  outside p = attempt_of reply_of effects_of p

  abbrev at_word : Doing → List (Reading ℕ) → ℕ → generic.AttemptOf O
  at_word p readings word = waiting Reply Effect p readings word

  -- what a walk by a snapshot comes to
  module _ (self : (lock : Lock) → same lock lock ≡ true) (reads seizes most held_word left : ℕ) (old new : Doing) (words after : List ℕ)
      (found : Result Decision (Wanted Lock ℕ)) (by : WalksBySteps same S ResumePointIsValid reads seizes most held_word old words new after found left) where
    looks : Looked same self S.lock_word reads seizes (S.script old.job) (record { seen = seen_of old; left = most; held_word = held_word }) found
        (record { seen = seen_of new; left = left; held_word = by.held_word_then }) (length old.readings) (length old.held)
    looks =
        looked same self S.lock_word reads seizes (S.script old.job) (record { seen = seen_of old; left = most; held_word = held_word }) words found
        (record { seen = seen_of new; left = left; held_word = by.held_word_then }) after (length old.readings) (length old.held) by.walk refl refl

    pub has_seen : Saw old new found
    has_seen = record {
      still = by.still;
      back_held = looks.back_held;
      back_read = looks.back_read;
      valid_point = by.valid_point;
      held = looks.held;
      read = looks.read;
      predicts = looks.predicts;
    }

  -- a walk leads to the same whatever the phase was
  from_phase : (a : generic.AttemptOf O) (phase : Phase Lock ℕ) (found : Result Decision (Wanted Lock ℕ))
      → goes_on O (record a { phase = phase }) found ≡ goes_on O a found
  from_phase a phase (Ok decision) = refl
  from_phase a phase (Err (Seize lock)) = refl
  from_phase a phase (Err (Test word)) = refl

  -- an attempt that has decided nothing, at this word
  undecided_at : (p : Doing) (word : ℕ) → p.decision ≡ None → record (outside p) { phase = Tests word } ≡ at_word p p.readings word
  undecided_at p word none =
      ap (λ (d : Option Decision).
      record {
        job = p.job;
        readings = p.readings;
        held = p.held;
        phase = Tests word;
        reply = option_map reply_of d;
        effects = effects_left effects_of d p.made;
      }) none

  module _ (old mid : Doing) (found : Result Decision (Wanted Lock ℕ)) (seen : Saw old mid found) (lens : length mid.held ≡ length old.held)
      (none : old.decision ≡ None) where
    abbrev left : List (Reading ℕ)
    left = drop (length old.readings) mid.readings

    held_is : mid.held ≡ old.held
    held_is = seen.held lens

    job_is : mid.job ≡ old.job
    job_is = ap (λ (x : Doing). x.job) seen.still

    -- it is where its walk leads, whatever its phase and decision are there
    module _ (phase : Phase Lock ℕ) (decision : Option Decision) (made : ℕ) where
      abbrev there : Doing
      there = record mid { phase = phase; decision = decision; made = made }

      looks_by : outside there ≡ goes_on O (at_word mid mid.readings 0) found → Looks old (record { predicted = there; validated = Some (length old.readings) })
      unfolding Predicts
      looks_by came = at left refl (seen.predicts lens) where
        knows_far : ResumePointIsValid there.job there.point (seen_of there)
        knows_far = subst (λ (j : Job). ResumePointIsValid j mid.point (seen_of mid)) (sym job_is) seen.valid_point

        at : (l : List (Reading ℕ)) → left ≡ l → Predicts same (S.script old.job) (seen_of old) l found
            → Looks old (record { predicted = there; validated = Some (length old.readings) })
        at [] is sees =
            let all : mid.readings ≡ old.readings = seen.read ∙ ap (λ (l : List (Reading ℕ)). old.readings ++ l) is ∙ append-nil old.readings in
            record {
              change = ap (now_by reply_of effects_of there (Some (length old.readings))) is
                  ∙ came
                  ∙ ap (λ (j : Job). goes_on O (record { job = j; readings = mid.readings; held = mid.held; phase = Tests 0; reply = None; effects = [] })
                  found) job_is
                  ∙ ap (λ (l : List (Reading ℕ)). goes_on O
                  (record { job = old.job; readings = l; held = mid.held; phase = Tests 0; reply = None; effects = [] }) found) all
                  ∙ ap (λ (h : List Lock). goes_on O (record { job = old.job; readings = old.readings; held = h; phase = Tests 0; reply = None; effects = [] })
                  found) held_is
                  ∙ ap (λ (a : generic.AttemptOf O). goes_on O a found) (sym (undecided_at old 0 none))
                  ∙ from_phase (outside old) (Tests 0) found
                  ∙ ap (goes_on O (outside old)) (sym sees);
              valid_point =
                  subst (ResumePointIsValidBy same reply_of effects_of S ResumePointIsValid there (Some (length old.readings))) (sym is)
                  (knows_there same reply_of effects_of S ResumePointIsValid there found came knows_far);
            }
        at (first ∷ rest) is sees =
            record {
              change = ap (now_by reply_of effects_of there (Some (length old.readings))) is
                  ∙ ap (λ (l : List (Reading ℕ)). at_word there l first.word) seen.back_read
                  ∙ ap (λ (j : Job). record { job = j; readings = old.readings; held = mid.held; phase = Tests first.word; reply = None; effects = [] }) job_is
                  ∙ ap (λ (h : List Lock). record { job = old.job; readings = old.readings; held = h; phase = Tests first.word; reply = None; effects = [] })
                  held_is
                  ∙ sym (undecided_at old first.word none)
                  ∙ ap (goes_on O (outside old)) (sym sees.0);
              valid_point = subst (ResumePointIsValidBy same reply_of effects_of S ResumePointIsValid there (Some (length old.readings))) (sym is) (record {
                all =
                    seen.read ∙ ap (λ (l : List (Reading ℕ)). l ++ left) (sym seen.back_read)
                    ∙ ap (λ (l : List (Reading ℕ)). take (length old.readings) mid.readings ++ l) is;
                found = found;
                predicts =
                    subst (λ (j : Job). Predicts same (S.script j) (record { held = mid.held; readings = take (length old.readings) mid.readings })
                    (first ∷ rest) found) (sym job_is)
                    (subst (λ (h : List Lock). Predicts same (S.script old.job) (record { held = h; readings = take (length old.readings) mid.readings })
                    (first ∷ rest) found) (sym held_is)
                    (subst (λ (l : List (Reading ℕ)). Predicts same (S.script old.job) (record { held = old.held; readings = l }) (first ∷ rest) found)
                    (sym seen.back_read) sees));
                comes = came;
                valid_point = knows_far;
              });
            }

  -- it seized no lock on its way
  pub looks_on : (old mid new_far : Doing) (found : Result Decision (Wanted Lock ℕ)) → Saw old mid found → length mid.held ≡ length old.held
      → old.decision ≡ None → new_far ≡ continued mid found
      → Looks old (record { predicted = new_far; validated = Some (length old.readings) })
  looks_on old mid new_far found seen lens none is =
      subst (λ (f : Doing). Looks old (record { predicted = f; validated = Some (length old.readings) })) (sym is) (at found seen) where
        still : mid.decision ≡ None
        still = ap (λ (x : Doing). x.decision) seen.still ∙ none

        at : (found : Result Decision (Wanted Lock ℕ)) → Saw old mid found
            → Looks old (record { predicted = continued mid found; validated = Some (length old.readings) })
        at (Ok decision) seen = looks_by old mid (Ok decision) seen lens none Turns (Some decision) 0 refl
        at (Err (Seize lock)) seen = looks_by old mid (Err (Seize lock)) seen lens none (wanted_phase (Seize lock)) mid.decision mid.made
            (ap (λ (d : Option Decision).
            record {
              job = mid.job;
              readings = mid.readings;
              held = mid.held;
              phase = wanted_phase (Seize lock);
              reply = option_map reply_of d;
              effects = effects_left effects_of d mid.made;
            }) still)
        at (Err (Test word)) seen = looks_by old mid (Err (Test word)) seen lens none (wanted_phase (Test word)) mid.decision mid.made
            (ap (λ (d : Option Decision).
            record {
              job = mid.job;
              readings = mid.readings;
              held = mid.held;
              phase = wanted_phase (Test word);
              reply = option_map reply_of d;
              effects = effects_left effects_of d mid.made;
            }) still)

  -- it seized one, so it rolls back
  pub back_is : (old mid back : Doing) (found : Result Decision (Wanted Lock ℕ)) (start : ResumePoint) → Saw old mid found
      → back ≡ record mid { readings = take (length old.readings) mid.readings; held = take (length old.held) mid.held; point = start }
      → back ≡ record old { point = start }
  back_is old mid back found start seen is =
      is
      ∙ ap (λ (l : List (Reading ℕ)). record mid { readings = l; held = take (length old.held) mid.held; point = start }) seen.back_read
      ∙ ap (λ (h : List Lock). record mid { readings = old.readings; held = h; point = start }) seen.back_held
      ∙ ap (λ (x : Doing). record x { readings = old.readings; held = old.held; point = start }) seen.still

  pub looks_back : (old back new_far : Doing) (start : ResumePoint) → back ≡ record old { point = start }
      → WalksOn same reply_of effects_of S ResumePointIsValid back new_far → Looks old (record { predicted = new_far; validated = None })
  looks_back old back new_far start is by = record { change = by.change ∙ ap (λ (x : Doing). walks_on O (outside x)) is; valid_point = by.point }

  -- the same as the code has it, which has counted what was read and held before
  module _ (old mid : Doing) (found : Result Decision (Wanted Lock ℕ)) (reads locks : ℕ) (seen : Saw old mid found) (reads_are : reads ≡ length old.readings)
      (locks_are : locks ≡ length old.held) where
    pub looks_ahead : (new_far : Doing) → length mid.held ≡ locks → old.decision ≡ None → new_far ≡ continued mid found
        → Looks old (record { predicted = new_far; validated = Some reads })
    looks_ahead new_far lens none made =
        subst (λ (n : ℕ). Looks old (record { predicted = new_far; validated = Some n })) (sym reads_are)
        (looks_on old mid new_far found seen (lens ∙ locks_are) none made)

    pub goes_back : (back : Doing) (start : ResumePoint) → back ≡ record mid { readings = take reads mid.readings; held = take locks mid.held; point = start }
        → back ≡ record old { point = start }
    goes_back back start made = back_is old mid back found start seen
        (made
        ∙ ap (λ (n : ℕ). record mid { readings = take n mid.readings; held = take locks mid.held; point = start }) reads_are
        ∙ ap (λ (n : ℕ). record mid { readings = take (length old.readings) mid.readings; held = take n mid.held; point = start }) locks_are)

  -- it may roll back if it could walk before
  pub may_go_back : (old mid : Doing) (found : Result Decision (Wanted Lock ℕ)) (reads : ℕ) → Saw old mid found → reads ≡ length old.readings
      → CanWalk same reply_of effects_of S ResumePointIsValid old → MayRollBack S reads mid
  may_go_back old mid found reads seen reads_are can = record {
    job = subst S.IsJob (sym (ap (λ (x : Doing). x.job) seen.still)) can.job;
    read = subst AreReadWords (sym (ap (λ (n : ℕ). take n mid.readings) reads_are ∙ seen.back_read)) can.read;
  }

  pub can_again : (mid back : Doing) (reads locks : ℕ) (job : Job) (start : ResumePoint) → MayRollBack S reads mid → job ≡ mid.job
      → ((seen : Seen Lock) → ResumePointIsValid job start seen)
      → back ≡ record mid { readings = take reads mid.readings; held = take locks mid.held; point = start }
      → CanWalk same reply_of effects_of S ResumePointIsValid back
  can_again mid back reads locks job start may job_is valid_point made =
      subst (λ (x : Doing). CanWalk same reply_of effects_of S ResumePointIsValid x) (sym made)
      (record {
        job = may.job;
        read = may.read;
        valid_point =
            subst (λ (j : Job). ResumePointIsValid j start (seen_of (record mid { readings = take reads mid.readings; held = take locks mid.held }))) job_is
            (valid_point _);
      })

  -- without predictions
  pub now_plain : (p : Speculation Lock Job Decision ResumePoint) → p.validated ≡ None → now_of reply_of effects_of p ≡ outside p.predicted
  now_plain p none = ap (λ (s : Option ℕ). now_by reply_of effects_of p.predicted s (predicted_of s p.predicted.readings)) none

  -- after it has dropped its predictions
  pub settled_now : (old : Speculation Lock Job Decision ResumePoint) (prediction : Reading ℕ) (start : ResumePoint) (predicted : Doing)
      → Some prediction ≡ slice_get (predictions old) 0
      → predicted
      ≡ record old.predicted
      { readings = validated_of old.validated old.predicted.readings; phase = Tests prediction.word; decision = None; made = 0; point = start }
      → outside predicted ≡ now_of reply_of effects_of old
  settled_now old prediction start predicted got is = ap outside is ∙ sym (waits reply_of effects_of old prediction got)

  -- begun anew
  pub restarted_far : (old mid new : Speculation Lock Job Decision ResumePoint) → outside mid.predicted ≡ now_of reply_of effects_of old → mid.validated ≡ None
      → new.validated ≡ mid.validated → outside new.predicted ≡ restarted O (outside mid.predicted)
      → now_of reply_of effects_of new ≡ restarted O (now_of reply_of effects_of old)
  restarted_far old mid new now_is none still change = now_plain new (still ∙ none) ∙ change ∙ ap (restarted O) now_is

  module _ (R H : ℕ) (are : AreScripts same reply_of effects_of S ResumePointIsValid R H) where
    abbrev StandsHere : Speculation Lock Job Decision ResumePoint → Type 0
    StandsHere p = IsValidSpeculation same reply_of effects_of S ResumePointIsValid R H p

    abbrev Plainly : Doing → Type 0
    Plainly p = IsValid same reply_of effects_of S ResumePointIsValid R H p

    -- without predictions
    pub plain : (predicted : Doing) → Plainly predicted → StandsHere (record { predicted = predicted; validated = None })
    plain predicted valid = record { place = valid.place; valid_point = valid.point }

    pub plainly : (p : Speculation Lock Job Decision ResumePoint) → p.validated ≡ None → StandsHere p → Plainly p.predicted
    plainly p none valid =
        let here : StandsHere (record { predicted = p.predicted; validated = None }) =
        subst (λ (s : Option ℕ). StandsHere (record { predicted = p.predicted; validated = s })) none valid in
        record { place = here.place; point = here.valid_point }

    pub unguessed : (p : Speculation Lock Job Decision ResumePoint) → predictions p ≡ [] → StandsHere p
        → StandsHere (record { predicted = p.predicted; validated = None })
    unguessed p none valid = record {
      place = subst (IsValidInBounds O R H) (ap (now_by reply_of effects_of p.predicted p.validated) none) valid.place;
      valid_point = subst (ResumePointIsValidBy same reply_of effects_of S ResumePointIsValid p.predicted p.validated) none valid.valid_point;
    }

    pub stands_plain : (p : Speculation Lock Job Decision ResumePoint) → p.validated ≡ None → Plainly p.predicted → StandsHere p
    stands_plain p none valid = subst (λ (s : Option ℕ). StandsHere (record { predicted = p.predicted; validated = s })) (sym none) (plain p.predicted valid)

    -- it has seized a lock
    pub seizes : (old new : Speculation Lock Job Decision ResumePoint) (mid : Doing) (lock : Lock) (count : ℕ) → StandsHere old → old.validated ≡ None
        → Some lock ≡ generic.asked_in old.predicted.phase
        → mid ≡ record (record old.predicted { held = old.predicted.held ++ lock ∷ [] }) { count = count } → Looks mid new
        → (now_of reply_of effects_of new ≡ generic.change O (now_of reply_of effects_of old) Seized) × StandsHere new
    seizes old new mid lock count valid none names holds looks = (
      change,
      record {
        place = subst (IsValidInBounds O R H) (sym change) (place_change O are.is_system R H are.asks (now_of reply_of effects_of old) Seized tt valid.place);
        valid_point = looks.valid_point;
      },
    ) where
      old_is : now_of reply_of effects_of old ≡ outside old.predicted
      old_is = ap (λ (s : Option ℕ). now_by reply_of effects_of old.predicted s (predicted_of s old.predicted.readings)) none

      change : now_of reply_of effects_of new ≡ generic.change O (now_of reply_of effects_of old) Seized
      change = looks.change
          ∙ ap (λ (x : Doing). walks_on O (outside x)) holds
          ∙ acquires O (outside old.predicted) old.predicted.phase lock names
          ∙ ap (λ (a : generic.AttemptOf O). generic.change O a Seized) (sym old_is)

    -- an answer to a step without predictions
    pub told_far : (old new : Speculation Lock Job Decision ResumePoint) (answer : Answer) → old.validated ≡ None → new.validated ≡ None
        → outside new.predicted ≡ generic.change O (outside old.predicted) answer → Plainly new.predicted
        → (now_of reply_of effects_of new ≡ generic.change O (now_of reply_of effects_of old) answer) × StandsHere new
    told_far old new answer none none_after change valid = (
      now_plain new none_after ∙ change ∙ ap (λ (a : generic.AttemptOf O). generic.change O a answer) (sym (now_plain old none)),
      subst (λ (s : Option ℕ). StandsHere (record { predicted = new.predicted; validated = s })) (sym none_after) (plain new.predicted valid),
    )

    -- an answer after it has dropped its predictions
    pub settles_on : (old mid new : Speculation Lock Job Decision ResumePoint) (answer : Answer) → outside mid.predicted ≡ now_of reply_of effects_of old
        → mid.validated ≡ None → new.validated ≡ mid.validated → outside new.predicted ≡ generic.change O (outside mid.predicted) answer → Plainly new.predicted
        → (now_of reply_of effects_of new ≡ generic.change O (now_of reply_of effects_of old) answer) × StandsHere new
    settles_on old mid new answer now_is none still change valid =
        let told = told_far mid new answer none (still ∙ none) change valid in
        (told.0 ∙ ap (λ (a : generic.AttemptOf O). generic.change O a answer) (now_plain mid none ∙ now_is), told.1)

    -- without predictions, all of its readings are validated
    pub now_sure : (old mid : Speculation Lock Job Decision ResumePoint) → predictions old ≡ [] → mid ≡ record old { validated = None }
        → now_of reply_of effects_of mid ≡ now_of reply_of effects_of old
    now_sure old mid none is = ap (now_of reply_of effects_of) is ∙ sym (ap (now_by reply_of effects_of old.predicted old.validated) none)

    pub stands_sure : (old mid : Speculation Lock Job Decision ResumePoint) → predictions old ≡ [] → mid ≡ record old { validated = None } → StandsHere old
        → StandsHere mid
    stands_sure old mid none is valid = subst StandsHere (sym is) (unguessed old none valid)

    -- it may predict with the lock too
    pub may_look : (old : Speculation Lock Job Decision ResumePoint) (mid : Doing) (lock : Lock) (count : ℕ) (Setting : Type 0) → Setting
        → CanWalk same reply_of effects_of S ResumePointIsValid (record old.predicted { held = old.predicted.held ++ lock ∷ [] })
        → false ≡ is_some old.predicted.decision
        → mid ≡ record (record old.predicted { held = old.predicted.held ++ lock ∷ [] }) { count = count }
        → MayPredict Setting same reply_of effects_of S ResumePointIsValid R H mid
    may_look old mid lock count Setting setting can undecided holds =
        subst (λ (x : Doing). MayPredict Setting same reply_of effects_of S ResumePointIsValid R H x) (sym holds) (record {
          setting = setting;
          scripts = are;
          walk = record { job = can.job; read = can.read; valid_point = can.valid_point };
          undecided = none_of old.predicted.decision undecided;
        }) where
          none_of : (d : Option Decision) → false ≡ is_some d → d ≡ None
          none_of None e = refl
          none_of (Some decision) e = absurd cc

    -- it drops its predictions
    pub settled : (old : Speculation Lock Job Decision ResumePoint) (prediction : Reading ℕ) (start : ResumePoint) (predicted : Doing)
        → Some prediction ≡ slice_get (predictions old) 0 → StandsHere old → ((seen : Seen Lock) → ResumePointIsValid old.predicted.job start seen)
        → predicted
        ≡ record old.predicted
        { readings = validated_of old.validated old.predicted.readings; phase = Tests prediction.word; decision = None; made = 0; point = start }
        → (outside predicted ≡ now_of reply_of effects_of old) × Plainly predicted
    settled old prediction start predicted got valid valid_point is =
        let now : at_word old.predicted (validated_of old.validated old.predicted.readings) prediction.word ≡ now_of reply_of effects_of old =
        sym (waits reply_of effects_of old prediction got) in (
          ap outside is ∙ now,
          subst Plainly (sym is) (record { place = subst (IsValidInBounds O R H) (sym now) valid.place; point = valid_point _ }),
        )
