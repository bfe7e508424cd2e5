-- the steps that an attempt makes by itself are its marker's next steps in the office
use Rattle.std.proofs.Common.{◌≡◌, ℕ, zero, suc, ◌+◌, false, List, [], ◌∷◌, ◌++◌, append-nil, arith, refl, sym, ◌∙◌, ap, Some, slice_get, slice_set}
use Rattle.turns.specs.{Attempt.{IsAnswerTo, act, change}, declared.act.Act.TheVariants.{Finished, Request, Seize, Withdraw, Free, Test, Turn, Make}}
use Rattle.turns.specs.{declared.answer.Answer.Answer, Runs.is_finished, World.Does}
use Rattle.{attempts.specs.WalkOnWords.{IsNoTurn, LeadsTo, Moment, stepped, answer_at}, xbar_plan.specs.Tables.Tables}
use Rattle.{xbar_office.specs.declared.reply.Record.Record, xbar_jobs.specs.{Attempt.{Act, Attempt, next_step}, Office.office, OnWords.words_after}}
use Rattle.{xbar_jobs.proofs.PastTurn.words_led, xbar_moves.specs.{Exchange.{Exchange, Marker, Work}, Holding.IsAt, declared.kinds.Kind.Kind}}
use Rattle.xbar_moves.{specs.Moves.{added_record, after_step, steps}, proofs.{Markers.{marker_same, marker_set}, StepCases.step_made, Worlds.answer_is}}
use Rattle.turns.specs.declared.answer.Answer.TheVariants as answer

-- a marker that is set twice is what it is set to last
set_again : (markers : List Marker) (k : ℕ) (first last : Marker) → slice_set (slice_set markers k first) k last ≡ slice_set markers k last
set_again [] k first last = refl
set_again (m ∷ markers) zero first last = refl
set_again (m ∷ markers) (suc k) first last = ap (λ (all : List Marker). m ∷ all) (set_again markers k first last)

module _ (plan : Tables) (k : ℕ) where
  -- at rest there is no step
  not_rest : (one : Act) → IsNoTurn (office plan) one → is_finished one ≡ false
  not_rest Finished goes = absurd goes
  not_rest (Request conn) goes = refl
  not_rest (Seize conn expected) goes = refl
  not_rest (Withdraw conn) goes = refl
  not_rest (Free conn) goes = refl
  not_rest (Test word) goes = refl
  not_rest Turn goes = absurd goes
  not_rest (Make effect) goes = refl

  -- and only a turn is answered by one
  no_record : (number : ℕ) (a : Attempt) (one : Act) (answer_at : Answer) → IsNoTurn (office plan) one → IsAnswerTo one answer_at
      → added_record k number a answer_at ≡ []
  no_record number a one (answer.Asked word) goes answers = refl
  no_record number a one answer.Seized goes answers = refl
  no_record number a one (answer.Held holder) goes answers = refl
  no_record number a one (answer.Preferred other) goes answers = refl
  no_record number a one (answer.Again word) goes answers = refl
  no_record number a one (answer.Value value) goes answers = refl
  no_record number a one answer.Done goes answers = refl
  no_record number a Finished (answer.Turn turn) goes answers = absurd goes
  no_record number a (Request conn) (answer.Turn turn) goes answers = absurd answers
  no_record number a (Seize conn expected) (answer.Turn turn) goes answers = absurd answers
  no_record number a (Withdraw conn) (answer.Turn turn) goes answers = absurd answers
  no_record number a (Free conn) (answer.Turn turn) goes answers = absurd answers
  no_record number a (Test word) (answer.Turn turn) goes answers = absurd answers
  no_record number a Turn (answer.Turn turn) goes answers = absurd goes
  no_record number a (Make effect) (answer.Turn turn) goes answers = absurd answers

  -- an office with these words and this attempt of marker k, and all else as before
  abbrev pub with_moment : Exchange → Marker → ℕ → Moment (office plan) → Exchange
  with_moment e m number x = record { words = x.words; markers = slice_set e.markers k (record m { work = Does number x.attempt }); records = e.records }

  module _ (e : Exchange) (m was : Marker) (number : ℕ) (there : slice_get e.markers k ≡ Some was) where
    abbrev at_moment : (x : Moment (office plan)) → IsAt (with_moment e m number x) k number x.attempt
    at_moment x = record { marker = record m { work = Does number x.attempt }; there = marker_set e.markers k _ was there; work = refl }

    one_led : (x : Moment (office plan)) → IsNoTurn (office plan) (act x.attempt) → IsAnswerTo (act x.attempt) (answer_at (office plan) k x)
        → after_step plan k (with_moment e m number x) ≡ with_moment e m number (stepped (office plan) k x)
    one_led x goes answers =
        let a : Attempt = x.attempt in
        let here : Marker = record m { work = Does number a } in
        step_made plan (with_moment e m number x) k number a (at_moment x) (not_rest (act a) goes)
        ∙ ap (λ (t : Answer).
        record {
          words = words_after k (next_step a) x.words;
          markers = slice_set (slice_set e.markers k here) k (record m { work = Does number (change (office plan) a t) });
          records = e.records ++ added_record k number a t;
        }) (answer_is plan k x.words a)
        ∙ ap (λ (all : List Record).
        record {
          words = words_after k (next_step a) x.words;
          markers = slice_set (slice_set e.markers k here) k (record m { work = Does number (change (office plan) a (answer_at (office plan) k x)) });
          records = all;
        }) (ap (λ (more : List Record). e.records ++ more) (no_record number a (act a) (answer_at (office plan) k x) goes answers) ∙ append-nil e.records)
        ∙ ap (λ (all : List Marker). record { words = words_after k (next_step a) x.words; markers = all; records = e.records })
        (set_again e.markers k here (record m { work = Does number (change (office plan) a (answer_at (office plan) k x)) }))
        ∙ ap (λ (all : List ℕ).
        record {
          words = all;
          markers = slice_set e.markers k (record m { work = Does number (change (office plan) a (answer_at (office plan) k x)) });
          records = e.records;
        }) (words_led plan k a x.words)

    all_led : (count : ℕ) (x last : Moment (office plan)) → LeadsTo (office plan) k count x last
        → steps plan k count (with_moment e m number x) ≡ with_moment e m number last
    unfolding steps LeadsTo
    all_led zero x last leads = ap (with_moment e m number) leads
    all_led (suc count) x last leads = ap (steps plan k count) (one_led x leads.0 leads.1.0) ∙ all_led count (stepped (office plan) k x) last leads.1.1

  -- the marker's steps set the words and its attempt, and leave the records
  pub steps_led : (e : Exchange) (number : ℕ) (a : Attempt) (at : IsAt e k number a) (count : ℕ) (last : Moment (office plan))
      → LeadsTo (office plan) k count (record { attempt = a; words = e.words }) last → steps plan k count e ≡ with_moment e at.marker number last
  steps_led e number a at count last leads =
      let here : slice_set e.markers k (record at.marker { work = Does number a }) ≡ e.markers =
      ap (λ (w : Work). slice_set e.markers k (record at.marker { work = w })) (sym at.work) ∙ marker_same e.markers k at.marker at.there in
      ap (λ (all : List Marker). steps plan k count (record { words = e.words; markers = all; records = e.records })) (sym here)
      ∙ all_led e at.marker at.marker number at.there count (record { attempt = a; words = e.words }) last leads

  -- some steps and then more
  pub steps_then : (count more : ℕ) (e : Exchange) → steps plan k (count + more) e ≡ steps plan k more (steps plan k count e)
  unfolding steps
  steps_then zero more e = let none : 0 + more ≡ more = omega arith in ap (λ (n : ℕ). steps plan k n e) none
  steps_then (suc count) more e = let one : suc count + more ≡ suc (count + more) = omega arith in
      ap (λ (n : ℕ). steps plan k n e) one ∙ steps_then count more (after_step plan k e)

  -- the same of a marker, whose kind and whose job's number stay
  pub marker_led : (e : Exchange) (m : Marker) (kind : Kind) (number : ℕ) (a after : Attempt) (words : List ℕ) (count : ℕ)
      → slice_get e.markers k ≡ Some m → m ≡ record { kind = kind; work = Does number a }
      → LeadsTo (office plan) k count (record { attempt = a; words = e.words }) (record { attempt = after; words = words })
      → record { words = words; markers = slice_set e.markers k (record { kind = kind; work = Does number after }); records = e.records }
      ≡ steps plan k count e
  marker_led e m kind number a after words count there is leads =
      let at : IsAt e k number a = record { marker = m; there = there; work = ap (λ (x : Marker). x.work) is } in
      ap (λ (x : Marker). record { words = words; markers = slice_set e.markers k (record { kind = x.kind; work = Does number after }); records = e.records })
      (sym is)
      ∙ sym (steps_led e number a at count (record { attempt = after; words = words }) leads)

  -- without a step nothing changes
  pub marker_rests : (e : Exchange) (m same : Marker) → slice_get e.markers k ≡ Some m → same ≡ m
      → record { words = e.words; markers = slice_set e.markers k same; records = e.records } ≡ steps plan k 0 e
  unfolding steps
  marker_rests e m same there is =
      ap (λ (all : List Marker). record { words = e.words; markers = all; records = e.records })
      (ap (slice_set e.markers k) is ∙ marker_same e.markers k m there)
