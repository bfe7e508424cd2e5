-- what a step of a marker comes to, part by part
use Rattle.std.proofs.Common.{◌≡◌, ℕ, ◌<◌, Bool, true, false, List, ◌++◌, length, get_or, take, drop, refl, sym, ◌∙◌, ap, subst, Option, Some, None, slice_get}
use Rattle.std.proofs.Common.{slice_set, if◌then◌else◌}
use Rattle.{std.proofs.{Math.Seq.take-append_seam, lemmas.Option.slice_get_read}, turns.specs.{Attempt.{act, change}, Runs.is_finished, World.{Idle, Does}}}
use Rattle.{turns.specs.declared.answer.Answer.Answer, xbar_plan.specs.Tables.Tables, xbar_office.specs.declared.reply.Record.Record}
use Rattle.xbar_jobs.specs.{Attempt.{Attempt, counted, next_step, with_count}, Office.office, OnWords.words_after, declared.program.Step.Step}
use Rattle.xbar_moves.specs.{AtWork.{next_step_at, answer_to_step}, Exchange.{Exchange, Marker, Work as TheWork, is_idle}}
use Rattle.xbar_moves.specs.{Moves.{IsAnswered, event_by, event_of, added_record, after_step, steps}, declared.{event.Event.Event, kinds.Kind.Kind}}
use Rattle.{xbar_moves.proofs.{Markers.marker_same, StepCases.step_made, Stepping.step_idle}, xbar_core.specs.declared.work.Work.Work}
use Rattle.xbar_moves.specs.declared.event.Event.TheVariants as event

-- words that are written whole
written : (words new : List ℕ) (len : ℕ) → len ≡ length words → length new ≡ length words → take len (new ++ drop (length new) words) ≡ new
written words new len whole same =
    subst (λ (n : ℕ). take n (new ++ drop (length new) words) ≡ new) (sym (whole ∙ sym same)) (take-append_seam new (drop (length new) words))

-- a step on all of the words
pub step_whole : (plan : Tables) (e : Exchange) (k len : ℕ) (words new : List ℕ) (markers : List Marker) (records : List Record) → words ≡ e.words
    → len ≡ length e.words → length new ≡ length words
    → record { words = new; markers = markers; records = records } ≡ after_step plan k (record e { words = words })
    → record { words = take len (new ++ drop (length new) e.words); markers = markers; records = records } ≡ after_step plan k e
step_whole plan e k len words new markers records same whole keeps is =
    ap (λ (all : List ℕ). record { words = all; markers = markers; records = records }) (written e.words new len whole (keeps ∙ ap (length {A = ℕ}) same))
    ∙ is ∙ ap (λ (all : List ℕ). after_step plan k (record e { words = all })) same

-- several steps on all of the words
pub steps_whole : (plan : Tables) (e : Exchange) (k count len : ℕ) (words new : List ℕ) (markers : List Marker) → words ≡ e.words → len ≡ length e.words
    → length new ≡ length words
    → record { words = new; markers = markers; records = e.records } ≡ steps plan k count (record e { words = words })
    → record { words = take len (new ++ drop (length new) e.words); markers = markers; records = e.records } ≡ steps plan k count e
steps_whole plan e k count len words new markers same whole keeps is =
    ap (λ (all : List ℕ). record { words = all; markers = markers; records = e.records }) (written e.words new len whole (keeps ∙ ap (length {A = ℕ}) same))
    ∙ is ∙ ap (λ (all : List ℕ). steps plan k count (record e { words = all })) same

-- the marker that is read at a place
pub marker_read : (markers : List Marker) (k : ℕ) (read : Marker) → k < length markers → read ≡ get_or markers k read → slice_get markers k ≡ Some read
marker_read markers k read within is = slice_get_read markers (length markers) k read refl within is

-- what comes of a step, by how the marker is answered
module _ (plan : Tables) (k : ℕ) (words : List ℕ) (before after : TheWork) (told : Option Answer) (answered : IsAnswered plan k words before after told) where
  abbrev event_if : Bool → ℕ → Attempt → Event
  event_if idle n a = if idle then event.Idle else event_of k n a (change (office plan) a (answer_to_step k words a)) (answer_to_step k words a)

  pub event_idle : told ≡ None → event.Idle ≡ event_by plan k words before
  event_idle none = by before (subst (IsAnswered plan k words before after) none answered) where
    by : (work : TheWork) → is_idle work ≡ true → event.Idle ≡ event_by plan k words work
    by Idle is = refl
    by (Does n a) is = ap (λ (idle : Bool). event_if idle n a) (sym is)

  pub event_answered : (answer : Answer) (step : Step) (comes : Event) → told ≡ Some answer → step ≡ next_step_at before
      → ((n : ℕ) (a later : Attempt) → step ≡ next_step a → after ≡ Does n later → comes ≡ event_of k n a later answer) → comes ≡ event_by plan k words before
  event_answered answer step comes some is by_answer = by before (subst (IsAnswered plan k words before after) some answered) is where
    by : (work : TheWork) → IsAnswered plan k words work after (Some answer) → step ≡ next_step_at work → comes ≡ event_by plan k words work
    by Idle has is = absurd has
    by (Does n a) has is =
        by_answer n a (change (office plan) a answer) is has.2
        ∙ ap (λ (t : Answer). event_of k n a (change (office plan) a t) t) has.1
        ∙ ap (λ (idle : Bool). event_if idle n a) (sym has.0)

module _ (plan : Tables) (e : Exchange) (k : ℕ) (m : Marker) (there : slice_get e.markers k ≡ Some m) where
  pub step_rests : (after : Marker) → is_idle m.work ≡ true → after ≡ m
      → record { words = e.words; markers = slice_set e.markers k after; records = e.records } ≡ after_step plan k e
  step_rests after idle is =
      (λ i. record { words = e.words; markers = slice_set e.markers k (is i); records = e.records })
      ∙ ap (λ (markers : List Marker). record { words = e.words; markers = markers; records = e.records }) (marker_same e.markers k m there)
      ∙ sym (step_idle plan e k m there idle)

  -- marker k is not idle: its word, its work and the records are those after its step
  pub step_goes : (kind : Kind) (work after : Work) (words : List ℕ) (records : List Record)
      → m ≡ record { kind = kind; work = Does work.job_no work.program.attempt }
      → is_finished (act work.program.attempt) ≡ false
      → after
      ≡ record work
      { program = with_count (counted work.program.count) (change (office plan) work.program.attempt (answer_to_step k e.words work.program.attempt)) }
      → words ≡ words_after k (next_step work.program.attempt) e.words
      → records ≡ e.records ++ added_record k work.job_no work.program.attempt (answer_to_step k e.words work.program.attempt)
      → record { words = words; markers = slice_set e.markers k (record { kind = kind; work = Does after.job_no after.program.attempt }); records = records }
      ≡ after_step plan k e
  step_goes kind work after words records at goes after_is words_is records_is =
      let a = work.program.attempt in
      let told = answer_to_step k e.words a in
      let was : Marker = record { kind = kind; work = Does work.job_no a } in
      (λ i.
      record {
        words = words_is i;
        markers = slice_set e.markers k (record { kind = kind; work = Does (after_is i).job_no (after_is i).program.attempt });
        records = records_is i;
      })
      ∙ sym (step_made plan e k work.job_no a (record { marker = was; there = there ∙ ap Some at; work = refl }) goes)
