-- a desk's step is its marker's step in an office
use Rattle.std.proofs.Common.{◌≡◌, ◌≢◌, ℕ, Bool, false, map, refl, sym, ◌∙◌, ap, subst, Some, if◌then◌else◌, slice_get, slice_index}
use Rattle.turns.specs.{Attempt.{act, answer_to, change}, declared.act.Act.TheVariants.{Finished, Request, Seize, Withdraw, Free, Test, Turn, Make}}
use Rattle.{turns.specs.{declared.answer.Answer.Answer, Runs.is_finished, World.{World, Does, moved}}, desks.specs.Kept.number_found}
use Rattle.{atomic_table.specs.Seated.TableId, xbar_equip.specs.declared.conn.Conn.Conn, xbar_plan.specs.Tables.Tables}
use Rattle.xbar_office.specs.declared.{job.Job.Job, reply.Reply.Reply}
use Rattle.xbar_jobs.specs.{declared.effect.Effect.Effect, Attempt.{Act, Attempt, next_step}, Office.office, OnWords.step_answer}
use Rattle.{xbar_jobs.proofs.StepActs.{act_answer, act_word}, xbar_moves.specs.{AtWork.answer_to_step, Exchange.{Exchange, IsLawfulExchange, Work, world}}}
use Rattle.xbar_moves.specs.{Holding.IsAt, Moves.{after_step, event_at_step, event_by, event_of}, declared.{event.Event.Event, kinds.Kind.Kind}}
use Rattle.xbar_moves.proofs.{Markers.marker_set, StepCases.step_made, Stepping.event_there, WorldMoves.{has_to_give, steps_in_world}}
use Rattle.xbar_fabric.specs.{Advances.MarkerHasStepped, Views.{DeskView, AgreesWith, entered, view_at}}
use Rattle.xbar_fabric.proofs.Offices.{Order, begins_entered, entered_turned, is_lawful, marker_at, marker_made, office_of, own_same, world_is}
use Rattle.desks.specs.Desks as desks
use Rattle.desks.specs.Views as views
use Rattle.xbar_moves.specs.Moves as moves
use Rattle.xbar_moves.specs.declared.event.Event.TheVariants as event

busy_act : (x : Act) → x ≢ Finished → is_finished x ≡ false
busy_act Finished goes = absurd (goes refl)
busy_act (Request conn) goes = refl
busy_act (Seize conn expected) goes = refl
busy_act (Withdraw conn) goes = refl
busy_act (Free conn) goes = refl
busy_act (Test word) goes = refl
busy_act Turn goes = refl
busy_act (Make effect) goes = refl

-- a desk by its parts
abbrev pub desk_at : TableId → Tables → Kind → ℕ → Work → Order → DeskView
desk_at table plan kind k work seen = record {
  table = table;
  plan = plan;
  marker = k;
  kind = kind;
  work = work;
  seen = map entered seen;
}

-- a desk of which only what it has seen is another
pub seen_only : (desk after : views.DeskView Tables Conn Job Reply Effect) → after ≡ record desk { seen = after.seen }
    → after ≡ record desk { actor = after.actor; seen = after.seen }
seen_only desk after same =
    let actor : desk.actor ≡ after.actor = sym (ap (λ (d : views.DeskView Tables Conn Job Reply Effect). d.actor) same) in
    same ∙ (λ i. record desk { actor = actor i; seen = after.seen })

-- what holds of two desks by their parts holds of them as they are seen
pub as_seen : (Has : DeskView → DeskView → Type 0) (plan : Tables) (kind : Kind) (desk after : views.DeskView Tables Conn Job Reply Effect) (now : DeskView)
    → desk.setting ≡ plan → after ≡ record desk { actor = after.actor; seen = after.seen } → view_at kind desk ≡ now
    → Has (desk_at desk.table plan kind desk.number desk.actor desk.seen) (desk_at desk.table plan kind desk.number after.actor after.seen)
    → Has now (view_at kind after)
as_seen Has plan kind desk after now setting same is has =
    let old_is : desk_at desk.table plan kind desk.number desk.actor desk.seen ≡ now =
    ap (λ (p : Tables). desk_at desk.table p kind desk.number desk.actor desk.seen) (sym setting) ∙ is in
    let new_is : desk_at desk.table plan kind desk.number after.actor after.seen ≡ view_at kind after =
    ap (λ (p : Tables). desk_at desk.table p kind desk.number after.actor after.seen) (sym setting) ∙ ap (view_at kind) (sym same) in
    subst (Has now) new_is (subst (λ (d : DeskView). Has d (desk_at desk.table plan kind desk.number after.actor after.seen)) old_is has)

module _ (plan : Tables) (kind : Kind) (k : ℕ) (before after : Work) (seen seen_after : Order) (answer : Answer)
    (step : desks.HasStepped (office plan) k before after seen seen_after answer) where
  abbrev pub e : Exchange
  e = office_of plan kind step.world

  abbrev pub a : Attempt
  a = step.attempt

  pub lawful : IsLawfulExchange plan e
  lawful = is_lawful plan kind step.world step.lawful

  abbrev pub at : IsAt e k step.number a
  at = record {
    marker = marker_at kind before;
    there = marker_made plan kind step.world.actors k before step.there;
    work = step.before_is;
  }

  pub goes_on_at : is_finished (act a) ≡ false
  goes_on_at = busy_act (act a) step.goes_on

  answered : answer_to_step k e.words a ≡ answer_to (office plan) k (act a) (number_found (office plan) step.world a)
  answered =
      ap (λ (n : ℕ). step_answer k (next_step a) (slice_index step.world.words n)) (act_word plan (act a))
      ∙ act_answer plan k (act a) (number_found (office plan) step.world a)

  pub reported : answer_to_step k e.words a ≡ answer
  reported = answered ∙ sym step.answer_is

  after_is : Does step.number (change (office plan) a (answer_to_step k e.words a)) ≡ after
  after_is = ap (λ (t : Answer). Does step.number (change (office plan) a t)) answered ∙ sym step.after_is

  pub there_after : slice_get (after_step plan k e).markers k ≡ Some (marker_at kind after)
  there_after =
      ap (λ (x : Exchange). slice_get x.markers k) (step_made plan e k step.number a at goes_on_at)
      ∙ marker_set e.markers k _ at.marker at.there
      ∙ ap (λ (work : Work). Some (marker_at kind work)) after_is

  order_is : seen_after ≡ (world plan (after_step plan k e)).order
  order_is =
      step.seen_is
      ∙ ap (λ (w : World (office plan)). (moved (office plan) k step.number a w).order) (sym (world_is plan kind step.world))
      ∙ ap (λ (w : World (office plan)). w.order) (sym (steps_in_world plan e k step.number a at (has_to_give plan e k step.number a at lawful)))

  pub seen_is : map entered seen_after ≡ (after_step plan k e).records
  seen_is = ap (map entered) order_is ∙ entered_turned (after_step plan k e).records

  pub came : event_at_step plan k e ≡ event_of k step.number a (change (office plan) a answer) answer
  came =
      sym (event_there plan e k at.marker at.there)
      ∙ ap (event_by plan k e.words) step.before_is
      ∙ ap (λ (idle : Bool). if idle then event.Idle else event_of k step.number a (change (office plan) a (answer_to_step k e.words a))
      (answer_to_step k e.words a)) goes_on_at
      ∙ ap (λ (t : Answer). event_of k step.number a (change (office plan) a t) t) reported

  pub agrees : (table : TableId) → AgreesWith (desk_at table plan kind k before seen) e
  agrees table = record {
    lawful = lawful;
    there = at.there;
    begins = begins_entered seen step.world.order step.begins;
    own_is = own_same k seen step.world.order step.own_is;
  }

  -- how the marker is answered there
  pub is_answered : moves.IsAnswered plan k e.words before after (Some answer)
  is_answered =
      subst (λ (m : Work). moves.IsAnswered plan k e.words m after (Some answer)) (sym step.before_is)
      (goes_on_at, sym reported, sym after_is ∙ ap (λ (t : Answer). Does step.number (change (office plan) a t)) reported)

  -- the step, with what comes of it
  unfoldable pub has_stepped : (table : TableId) (what : Event) → what ≡ event_of k step.number a (change (office plan) a answer) answer
      → MarkerHasStepped (desk_at table plan kind k before seen) (desk_at table plan kind k after seen_after) what
  has_stepped table what is = record {
    office = e;
    agrees = agrees table;
    same = refl;
    there = there_after;
    seen_is = seen_is;
    event_is = is ∙ sym came;
  }
