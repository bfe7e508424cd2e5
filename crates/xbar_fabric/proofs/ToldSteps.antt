-- what an advance promises, by what the desk below it reports
use Rattle.std.proofs.Common.{◌≡◌, ◌≢◌, ℕ, ◌<◌, ◌^◌, Bool, true, false, List, [], ◌∷◌, ◌++◌, length, length-append, map, refl, sym, ◌∙◌, ap, inl, inr, subst}
use Rattle.std.proofs.Common.{arith, append-nil, append_assoc, Option, Some, None, option_map, option_to_list, slice_get, unwrap_or}
use mathlib.Core.Option.{some}
use lib.ListN.{get_elem?}
use Rattle.{atomic_table.specs.Seated.TableId, turns.specs.{Among.IsIn, Attempt.{IsValidIn, act, change, turn_in}, Runs.{is_available, is_finished}}}
use Rattle.turns.specs.{World.{Idle, Does, added_in}, declared.answer.Answer.{Answer, TheVariants.{Asked, Seized, Held, Preferred, Again, Value, Turn, Done}}}
use Rattle.{turns.{specs.declared.phase.Phase.TheVariants.{Turns, Operates}, proofs.Runs.rest_is}, desks.specs.{Kept.number_found, Parts.Begins}}
use Rattle.{xbar_equip.specs.declared.conn.Conn.Conn, xbar_plan.specs.{Tables.Tables, Lawful.IsLawful}, xbar_office.specs.declared.job.Job.Job}
use Rattle.{xbar_office.specs.declared.reply.{Record.Record, Reply.Reply}, xbar_jobs.{specs.{Attempt.Attempt, Office.office}, proofs.OfficeSystem.office_is}}
use Rattle.xbar_moves.specs.{Exchange.{Work, is_idle, on_job}, Moves.{event_at_step, event_of, finished, moved_on, record_of, refused_by}}
use Rattle.xbar_moves.{specs.declared.{event.Event.Event, kinds.Kind.Kind}, proofs.{FinishedJobs.{finished_at, finishes}, Steps.step_adds}}
use Rattle.xbar_fabric.{specs.{Advances.MarkerHasAdvanced, Histories.IsReportedRecord, Views.{DeskView, entered}}, proofs.Finishing.{decides_none, ends_done}}
use Rattle.xbar_fabric.proofs.{Offices.{Order, begins_entered, own_entered}, Steps.{at, came, desk_at, e, has_stepped, lawful, seen_is}}
use Rattle.turns.specs.World as worlds
use Rattle.desks.specs.Desks as desks
use Rattle.desks.specs.Parts as parts
use Rattle.xbar_moves.specs.declared.event.Event.TheVariants as event

-- an actor is available if its marker is idle
pub free_idle : (plan : Tables) (work : Work) → is_idle work ≡ is_available (office plan) work
free_idle plan Idle = refl
free_idle plan (Does number a) = refl

-- a marker at a job is at one
pub does_same : (number other : ℕ) (a b : Attempt) → ◌≡◌ {A = Work} (Does number a) (Does other b) → (number ≡ other) × (a ≡ b)
does_same number other a b is = (cc, cc)

-- a step finishes a job only if nothing is left of it
refusal_goes : (holder : ℕ) (conn : Option Conn) (r : Record) → refused_by holder conn ≡ event.Finished r → ⊥
refusal_goes holder None r is = cc
refusal_goes holder (Some conn) r is = cc

on_goes : (k number : ℕ) (after : Attempt) (r : Record) (rests : Bool) → moved_on k number after rests ≡ event.Finished r → rests ≡ true
on_goes k number after r true is = refl
on_goes k number after r false is = absurd cc

pub finished_rests : (k number : ℕ) (a after : Attempt) (r : Record) (answer : Answer) → event_of k number a after answer ≡ event.Finished r
    → is_finished (act after) ≡ true
finished_rests k number a after r (Held holder) is = absurd (refusal_goes holder _ r is)
finished_rests k number a after r (Preferred other) is = absurd cc
finished_rests k number a after r (Asked word) is = absurd cc
finished_rests k number a after r Seized is = absurd cc
finished_rests k number a after r (Again word) is = absurd cc
finished_rests k number a after r (Value value) is = absurd cc
finished_rests k number a after r (Turn turn) is = absurd cc
finished_rests k number a after r Done is = on_goes k number after r (is_finished (act after)) is

-- the event of the last step of an attempt past its turn
told_at_end : (k number turn : ℕ) (after : Attempt) (reply : Reply) → after.phase ≡ Operates turn → after.reply ≡ Some reply → is_finished (act after) ≡ true
    → event_of k number after after Done ≡ event.Finished (record { turn = turn; marker = k; job_no = number; job = after.job; reply = reply })
told_at_end k number turn after reply phase replied rests =
    ap (moved_on k number after) rests
    ∙ ap (λ p. finished (unwrap_or (option_map (λ t. record_of t k number after) (turn_in p)) [])) phase
    ∙ ap (λ (its : Option Reply). finished (option_to_list
    (option_map (λ x. record { turn = turn; marker = k; job_no = number; job = after.job; reply = x }) its))) replied

-- a record among the own turns is among the own records
own_told : (order : Order) (r : worlds.Record Job Reply) → IsIn r order → IsIn (entered r) (map entered order)
own_told [] r within = absurd within
own_told (x ∷ order) r (inl same) = inl (ap entered same)
own_told (x ∷ order) r (inr later) = inr (own_told order r later)

module _ (plan : Tables) (table : TableId) (kind : Kind) (k : ℕ) (before after : Work) (seen seen_after : Order) where
  abbrev pub old : DeskView
  old = desk_at table plan kind k before seen

  abbrev pub new : DeskView
  new = desk_at table plan kind k after seen_after

  -- an idle desk makes no step
  pub stays : is_available (office plan) before ≡ true → after ≡ before → seen_after ≡ seen → MarkerHasAdvanced old new event.Idle
  stays free same same_seen =
      let idle : is_idle before ≡ true = free_idle plan before ∙ free in
      record {
        idle = λ _. (λ i. desk_at table plan kind k (same i) (same_seen i), refl);
        stepped = λ goes. absurd cc;
        grown = ([], ap (map entered) same_seen ∙ sym (append-nil (map entered seen)));
        finished = λ r is. absurd cc;
        ended = λ busy rests. absurd cc;
      }

  module _ (answer : Answer) (step : desks.HasStepped (office plan) k before after seen seen_after answer) where
    abbrev pub next_attempt : Attempt
    next_attempt = change (office plan) step.attempt answer

    after_is : after ≡ Does step.number next_attempt
    after_is = step.after_is ∙ ap (λ (t : Answer). Does step.number (change (office plan) step.attempt t)) (sym step.answer_is)

    pub busy_now : is_available (office plan) after ≡ false → is_finished (act next_attempt) ≡ false
    busy_now goes = subst (λ (m : Work). is_available (office plan) m ≡ false) after_is goes

    pub never_idle : is_idle before ≡ true → ⊥
    never_idle idle = step.goes_on (rest_is (act step.attempt) (subst (λ (m : Work). is_idle m ≡ true) step.before_is idle))

    pub grows : Begins (map entered seen) (map entered seen_after)
    grows =
        let added = added_in (office plan) k step.number step.attempt step.attempt.phase (number_found (office plan) step.world step.attempt) in
        begins_entered seen seen_after
        (step.begins.0 ++ added, step.seen_is ∙ ap (λ (l : Order). l ++ added) step.begins.1 ∙ append_assoc seen step.begins.0 added)

    -- a step after which something is left of the job
    unfoldable pub moves : (what : Event) → what ≡ event_of k step.number step.attempt next_attempt answer → is_available (office plan) after ≡ false
        → MarkerHasAdvanced old new what
    moves what is goes = record {
      idle = λ idle. absurd (never_idle idle);
      stepped = λ _. has_stepped plan kind k before after seen seen_after answer step table what is;
      grown = grows;
      finished = λ r ends.
          let rests = finished_rests k step.number step.attempt next_attempt r answer (sym is ∙ ends) in
          let busy = busy_now goes in
          absurd cc;
      ended = λ busy rests.
          let free = free_idle plan after in
          let gone : is_available (office plan) after ≡ false = goes in
          absurd cc;
    }

    -- the last step of the job, which reports this
    module _ (reported : worlds.Record Job Reply) (laws : IsLawful plan) (ends : is_available (office plan) after ≡ true)
        (is_told : desks.IsReported (office plan) k after seen_after reported) where
      same : (step.number ≡ reported.number) × (next_attempt ≡ is_told.attempt)
      same = does_same step.number reported.number next_attempt is_told.attempt (sym after_is ∙ is_told.after_is)

      rests_now : is_finished (act next_attempt) ≡ true
      rests_now = subst (λ (m : Work). is_available (office plan) m ≡ true) after_is ends

      holds_some : step.attempt.phase ≡ Turns → step.attempt.held ≢ []
      holds_some turns =
          let there = subst (λ (m : Work). get_elem? step.world.actors k ≡ some m) step.before_is step.there in
          let sound = step.lawful.sound k step.number step.attempt there in
          decides_none plan step.attempt _ ((office_is plan laws).first step.attempt.job sound.job)
          (subst (IsValidIn (office plan) step.attempt) turns sound.valid)

      answer_done : answer ≡ Done
      answer_done =
          let found = number_found (office plan) step.world step.attempt in
          step.answer_is
          ∙ ends_done plan k found step.attempt holds_some
          (subst (λ (t : Answer). is_finished (act (change (office plan) step.attempt t)) ≡ true) step.answer_is rests_now)

      pub what_is : event.Finished (entered reported) ≡ event_of k step.number step.attempt next_attempt answer
      what_is =
          let phase : next_attempt.phase ≡ Operates reported.turn = ap (λ (a : Attempt). a.phase) same.1 ∙ is_told.phase in
          let reply : next_attempt.reply ≡ Some reported.reply = ap (λ (a : Attempt). a.reply) same.1 ∙ is_told.reply in
          let job : next_attempt.job ≡ reported.job = ap (λ (a : Attempt). a.job) same.1 ∙ is_told.job in
          let record_is : entered reported ≡ record { turn = reported.turn; marker = k; job_no = step.number; job = next_attempt.job; reply = reported.reply } =
          λ i. record { turn = reported.turn; marker = is_told.actor i; job_no = (sym same.0) i; job = (sym job) i; reply = reported.reply } in
          ap event.Finished record_is
          ∙ sym (told_at_end k step.number reported.turn next_attempt reported.reply phase reply rests_now)
          ∙ sym (ap (event_of k step.number step.attempt next_attempt) answer_done)

      its_event : event_at_step plan k (e plan kind k before after seen seen_after answer step) ≡ event.Finished (entered reported)
      its_event = came plan kind k before after seen seen_after answer step ∙ sym what_is

      shorter : length new.seen < 2 ^ 64 → length (e plan kind k before after seen seen_after answer step).records < 2 ^ 64
      shorter few =
          let office_at = e plan kind k before after seen seen_after answer step in
          let long =
          ap (length {A = Record}) (seen_is plan kind k before after seen seen_after answer step
          ∙ step_adds plan office_at k step.number step.attempt (at plan kind k before after seen seen_after answer step)) in
          omega (arith, few, simp length-append at long)

      pub tells : IsReportedRecord old new (entered reported)
      tells =
          let office_at = e plan kind k before after seen seen_after answer step in
          let here = at plan kind k before after seen seen_after answer step in
          let facts = finishes plan office_at k step.number step.attempt (entered reported) here its_event in
          record {
            marker = is_told.actor;
            job = subst (λ (m : Work). on_job ⊥ (λ number a. (reported.number ≡ number) × (reported.job ≡ a.job)) m) (sym step.before_is) (facts.1, facts.2);
            within = subst (IsIn (entered reported)) (sym (own_entered k seen_after)) (own_told (parts.own k seen_after) reported is_told.within);
            at_place = λ few. ap (λ (l : List Record). slice_get l reported.turn) (seen_is plan kind k before after seen seen_after answer step)
                ∙ finished_at plan office_at k (entered reported) (lawful plan kind k before after seen seen_after answer step) (shorter few) its_event;
          }

      unfoldable pub finishes_job : MarkerHasAdvanced old new (event.Finished (entered reported))
      finishes_job = record {
        idle = λ idle. absurd (never_idle idle);
        stepped = λ _. has_stepped plan kind k before after seen seen_after answer step table (event.Finished (entered reported)) what_is;
        grown = grows;
        finished = λ r is.
            let one : entered reported ≡ r = cc in
            (free_idle plan after ∙ ends, subst (IsReportedRecord old new) one tells);
        ended = λ busy rests. (entered reported, refl);
      }
