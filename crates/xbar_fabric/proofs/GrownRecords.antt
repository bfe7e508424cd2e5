-- what a desk's steps make of its own records and of its job
use Rattle.std.proofs.Common.{◌≡◌, ℕ, zero, suc, Bool, true, false, List, [], ◌∷◌, ◌++◌, append-nil, append_assoc, inl, inr, refl, sym, ◌∙◌, ap, subst, Option}
use Rattle.std.proofs.Common.{Some, None, is_some, option_map, slice_get, unwrap_or}
use Rattle.{std.proofs.lemmas.Option.same_Some, turns.specs.{Attempt.{act, change, turn_in}, Runs.is_finished, World.{Idle, Does}}}
use Rattle.{turns.specs.declared.answer.Answer.Answer, xbar_equip.specs.declared.conn.Conn.Conn}
use Rattle.{xbar_office.specs.declared.{job.Job.Job, reply.{Record.Record, Reply.Reply}}, xbar_jobs.specs.{Attempt.Attempt, Office.office}}
use Rattle.xbar_moves.specs.{AtWork.answer_to_step, Exchange.{Exchange, Marker, Work, is_idle, on_job}, Moves.{added_record, after_step, event_of, finished}}
use Rattle.xbar_moves.specs.{Moves.{given_by, moved_on, own_record, record_of, refused_by, restarted_work}, declared.event.Event.Event}
use Rattle.{xbar_moves.proofs.{StepCases.{IsMade, gone_on, step_cases}, Steps.has_come}, xbar_fabric.specs.Advances.{MarkerHasAdvanced, MarkerHasGivenBack}}
use Rattle.xbar_fabric.specs.{Advances.{MarkerHasMade, MarkerHasStepped, at_beginning}, Histories.{job_at, turned_of}, Views.{DeskView, marker_of, mine, own}}
use Rattle.xbar_fabric.proofs.{GivenBack.not_turned, OwnRecords.{changed_job, own_added, own_append, step_grows}}
use Rattle.turns.specs.declared.answer.Answer.TheVariants as answer
use Rattle.xbar_moves.specs.declared.event.Event.TheVariants as event
use Rattle.xbar_moves.specs.declared.event.Given.TheVariants as given

-- the record of marker k's job, once that has turned
abbrev turned_at : ℕ → Work → List Record
turned_at k work = on_job [] (own_record k) work

-- a desk stays at its job, and has just as many more own records as are of that
pub record HasGrown (before after : DeskView) : Type 0 where
  pub more : List Record
  pub marker : after.marker ≡ before.marker
  pub mine_is : mine after ≡ mine before ++ more
  pub turned_is : turned_of after ≡ turned_of before ++ more
  pub job : job_at after.work ≡ job_at before.work

-- if nothing has changed there are no more
pub still_grown : (before after : DeskView) → after ≡ before → HasGrown before after
still_grown before after same = record {
  more = [];
  marker = ap (λ (d : DeskView). d.marker) same;
  mine_is = ap mine same ∙ sym (append-nil (mine before));
  turned_is = ap turned_of same ∙ sym (append-nil (turned_of before));
  job = ap (λ (d : DeskView). job_at d.work) same;
}

-- those of the one, and then those of the other
pub both_grown : (before between after : DeskView) → HasGrown before between → HasGrown between after → HasGrown before after
both_grown before between after one other = record {
  more = one.more ++ other.more;
  marker = other.marker ∙ one.marker;
  mine_is = other.mine_is ∙ ap (λ (l : List Record). l ++ other.more) one.mine_is ∙ append_assoc (mine before) one.more other.more;
  turned_is = other.turned_is ∙ ap (λ (l : List Record). l ++ other.more) one.turned_is ∙ append_assoc (turned_of before) one.more other.more;
  job = other.job ∙ one.job;
}

module _ (before after : DeskView) (event : Event) (step : MarkerHasStepped before after event) where
  abbrev now : Exchange
  now = after_step before.plan before.marker step.office

  marker_same : after.marker ≡ before.marker
  marker_same = ap (λ (d : DeskView). d.marker) step.same

  -- what the desk does, and what it has seen, after a step that made this of the office
  work_now : (work : Work) (m : Marker) → m.work ≡ work → slice_get now.markers before.marker ≡ Some m → after.work ≡ work
  work_now work m is there = ap (λ (o : Marker). o.work) (same_Some (marker_of after) m (sym step.there ∙ there)) ∙ is

  mine_now : mine after ≡ own before.marker now.records
  mine_now = ap (λ (n : ℕ). own n after.seen) marker_same ∙ ap (own before.marker) step.seen_is

  turned_now : turned_of after ≡ turned_at before.marker after.work
  turned_now = ap (λ (n : ℕ). turned_at n after.work) marker_same

  -- the step changed nothing
  none_made : now ≡ step.office → HasGrown before after
  none_made is =
      let work = work_now before.work (marker_of before) refl (ap (λ (x : Exchange). slice_get x.markers before.marker) is ∙ step.agrees.there) in
      record {
        more = [];
        marker = marker_same;
        mine_is = mine_now ∙ ap (λ (x : Exchange). own before.marker x.records) is ∙ step.agrees.own_is ∙ sym (append-nil (mine before));
        turned_is = turned_now ∙ ap (turned_at before.marker) work ∙ sym (append-nil (turned_of before));
        job = ap job_at work;
      }

  -- it was the step of an attempt
  one_made : IsMade before.plan step.office before.marker now → HasGrown before after
  one_made made =
      let n = made.number in
      let a = made.attempt in
      let reported = answer_to_step before.marker step.office.words made.attempt in
      let later = gone_on before.plan step.office before.marker n a made.at made.goes in
      let was : before.work ≡ Does made.number made.attempt =
      ap (λ (o : Marker). o.work) (same_Some (marker_of before) made.at.marker (sym step.agrees.there ∙ made.at.there)) ∙ made.at.work in
      let work = work_now (Does n (change (office before.plan) a reported)) later.marker later.work later.there in
      record {
        more = added_record before.marker made.number made.attempt (answer_to_step before.marker step.office.words made.attempt);
        marker = marker_same;
        mine_is = mine_now
            ∙ ap (λ (x : Exchange). own before.marker x.records) made.is
            ∙ own_append before.marker step.office.records (added_record before.marker n a reported)
            ∙ ap (λ (l : List Record). l ++ own before.marker (added_record before.marker n a reported)) step.agrees.own_is
            ∙ ap (λ (l : List Record). mine before ++ l) (own_added before.marker n a reported);
        turned_is = turned_now
            ∙ ap (turned_at before.marker) work
            ∙ step_grows before.plan before.marker n step.office.words a
            ∙ ap (λ (w : Work). turned_at before.marker w ++ added_record before.marker n a reported) (sym was);
        job = ap job_at work
            ∙ ap (λ (job : Job). Some (n, job)) (changed_job before.plan before.marker n a a.phase reported)
            ∙ ap job_at (sym was);
      }

  -- by one step
  pub step_grown : HasGrown before after
  step_grown = elim (step_cases before.plan step.office before.marker) [
    | inl same ↦ none_made same
    | inr made ↦ one_made made
  ]

-- by many
pub steps_grown : (count : ℕ) (before after : DeskView) → MarkerHasMade count before after → HasGrown before after
steps_grown zero before after same = still_grown before after same
steps_grown (suc count) before after (between, event, made, asks, step) =
    both_grown before between after (steps_grown count before between made) (step_grown between after event step)

-- and by an advance
pub advance_grown : (before after : DeskView) (event : Event) → MarkerHasAdvanced before after event → HasGrown before after
advance_grown before after event advanced = by (is_idle before.work) refl where
  by : (idle : Bool) → is_idle before.work ≡ idle → HasGrown before after
  by true idle = still_grown before after (advanced.idle idle).0
  by false busy = step_grown before after event (advanced.stepped busy)

module _ (k number : ℕ) (after : Attempt) (r : Record) where
  by_reply : (turn : ℕ) (reply : Option Reply) → after.reply ≡ reply → finished (record_of turn k number (record after { reply = reply })) ≡ event.Finished r
      → record_of turn k number after ≡ r ∷ []
  by_reply turn None replied is = absurd cc
  by_reply turn (Some reply) replied is =
      let one : record { turn = turn; marker = k; job_no = number; job = after.job; reply = reply } ≡ r = cc in
      ap (λ (its : Option Reply). record_of turn k number (record after { reply = its })) replied ∙ ap (λ (x : Record). x ∷ []) one

  by_turn : (turned : Option ℕ) → finished (unwrap_or (option_map (λ turn. record_of turn k number after) turned) []) ≡ event.Finished r
      → unwrap_or (option_map (λ turn. record_of turn k number after) turned) [] ≡ r ∷ []
  by_turn None is = absurd cc
  by_turn (Some turn) is = by_reply turn after.reply refl is

  by_rest : (rests : Bool) → moved_on k number after rests ≡ event.Finished r → own_record k number after ≡ r ∷ []
  by_rest true is = by_turn (turn_in after.phase) is
  by_rest false is = absurd cc

  by_refusal : (holder : ℕ) (conn : Option Conn) → refused_by holder conn ≡ event.Finished r → ⊥
  by_refusal holder None is = cc
  by_refusal holder (Some conn) is = cc

  -- the record that a job's last step reports is the job's
  own_at_end : (a : Attempt) (reported : Answer) → event_of k number a after reported ≡ event.Finished r → own_record k number after ≡ r ∷ []
  own_at_end a (answer.Held holder) is = absurd (by_refusal holder _ is)
  own_at_end a (answer.Preferred other) is = absurd cc
  own_at_end a (answer.Asked word) is = absurd cc
  own_at_end a answer.Seized is = absurd cc
  own_at_end a (answer.Again word) is = absurd cc
  own_at_end a (answer.Value value) is = absurd cc
  own_at_end a (answer.Turn turn) is = absurd cc
  own_at_end a answer.Done is = by_rest (is_finished (act after)) is

step_ends : (before after : DeskView) (r : Record) → is_idle before.work ≡ false → MarkerHasStepped before after (event.Finished r) → turned_of after ≡ r ∷ []
step_ends before after r busy step =
    let come = has_come before.plan step.office before.marker (event.Finished r) (λ same. cc) (sym step.event_is) in
    let was : before.work ≡ Does come.number come.attempt =
    ap (λ (o : Marker). o.work) (same_Some (marker_of before) come.at.marker (sym step.agrees.there ∙ come.at.there)) ∙ come.at.work in
    let goes = subst (λ (w : Work). is_idle w ≡ false) was busy in
    let later = gone_on before.plan step.office before.marker come.number come.attempt come.at goes in
    turned_now before after (event.Finished r) step
    ∙ ap (turned_at before.marker) (work_now before after (event.Finished r) step _ later.marker later.work later.there)
    ∙ own_at_end before.marker come.number _ r come.attempt _ come.comes

-- the record of a desk's job at its end is the one that is reported
pub advance_ends : (before after : DeskView) (r : Record) → MarkerHasAdvanced before after (event.Finished r) → turned_of after ≡ r ∷ []
advance_ends before after r advanced = by (is_idle before.work) refl where
  by : (idle : Bool) → is_idle before.work ≡ idle → turned_of after ≡ r ∷ []
  by true idle = let none = (advanced.idle idle).1 in absurd cc
  by false busy = step_ends before after r busy (advanced.stepped busy)

-- a job that is given back has not turned
early_bare : (k : ℕ) (work : Work) → given_by work ≡ given.Given → turned_at k work ≡ []
early_bare k Idle gives = refl
early_bare k (Does number a) gives = by (turn_in a.phase) (not_turned (is_finished (act a)) (is_some (turn_in a.phase)) gives) where
  by : (turned : Option ℕ) → is_some turned ≡ false → unwrap_or (option_map (λ turn. record_of turn k number a) turned) [] ≡ []
  by None none = refl
  by (Some turn) none = absurd cc

-- nor has one at its beginning
begun_bare : (k : ℕ) (work : Work) → turned_at k (at_beginning work) ≡ []
begun_bare k Idle = refl
begun_bare k (Does number a) = refl

none_behind : (l more : List Record) → [] ≡ l ++ more → more ≡ []
none_behind [] more is = sym is
none_behind (r ∷ l) more is = absurd cc

-- a desk that has given back has no record of its job, and as many own records as before
pub back_adds_none : (before after : DeskView) → given_by before.work ≡ given.Given → MarkerHasGivenBack before after
    → (turned_of before ≡ []) × (turned_of after ≡ []) × (mine after ≡ mine before)
back_adds_none before after gives back =
    let start : DeskView = record before { work = restarted_work before.plan before.work } in
    let grown = steps_grown back.count start after back.made in
    let bare : turned_of after ≡ [] = ap (turned_at after.marker) back.begins ∙ begun_bare after.marker before.work in
    let none = none_behind (turned_of start) grown.more (sym bare ∙ grown.turned_is) in
    (early_bare before.marker before.work gives, bare, grown.mine_is ∙ ap (λ (l : List Record). mine before ++ l) none ∙ append-nil (mine before))
