-- a desk that gives back
use Rattle.std.proofs.Common.{◌≡◌, ℕ, zero, suc, Bool, true, false, refl, ◌∙◌, ap, is_some, if◌then◌else◌}
use Rattle.{atomic_table.specs.Seated.TableId, turns.specs.{Attempt.{act, begin_with, change, turn_in}, Runs.is_finished, World.{Idle, Does}}}
use Rattle.turns.specs.{declared.phase.Phase.TheVariants.{Requests, Seizes, Tests, Turns, Withdraws, GivesBack, Operates}, Outcomes.given_back}
use Rattle.{xbar_plan.specs.Tables.Tables, xbar_jobs.specs.{Attempt.{Attempt, Phase}, Jobs.first_conn, Office.office}}
use Rattle.xbar_moves.specs.{Exchange.Work, Moves.{event_of, given_by}, declared.kinds.Kind.Kind}
use Rattle.xbar_fabric.{specs.Advances.{MarkerHasGivenBack, MarkerHasMade}, proofs.{Offices.Order, Steps.{desk_at, has_stepped}}}
use Rattle.desks.specs.Desks as desks
use Rattle.xbar_moves.specs.declared.event.Given.TheVariants as given

pub not_turned : (rests turned : Bool) → (if rests then given.Idle else (if turned then given.PastTurn else given.Given)) ≡ given.Given → turned ≡ false
not_turned true turned is = absurd cc
not_turned false true is = absurd cc
not_turned false false is = refl

module _ (plan : Tables) (table : TableId) (kind : Kind) (k : ℕ) where
  -- steps of the desk below are as many steps of the marker
  has_made : (count : ℕ) (before after : Work) (seen seen_after : Order) → desks.HasMade (office plan) k count before after seen seen_after
      → MarkerHasMade count (desk_at table plan kind k before seen) (desk_at table plan kind k after seen_after)
  has_made zero before after seen seen_after made = λ i. desk_at table plan kind k (made.0 i) (made.1 i)
  has_made (suc count) before after seen seen_after (between, seen_between, answer, made, asks, step) = (
    desk_at table plan kind k between seen_between,
    event_of k step.number step.attempt (change (office plan) step.attempt answer) answer,
    has_made count before between seen seen_between made,
    asks,
    has_stepped plan kind k between after seen_between seen_after answer step table _ refl,
  )

  -- what has given back before its turn is at the beginning of its job
  starts_over : (a : Attempt) (phase : Phase) → is_some (turn_in phase) ≡ false → given_back (office plan) phase a ≡ begin_with (first_conn a.job) a.job
  starts_over a (Requests conn) early = refl
  starts_over a (Seizes conn expected) early = refl
  starts_over a (Tests word) early = refl
  starts_over a Turns early = refl
  starts_over a (Withdraws conn) early = refl
  starts_over a GivesBack early = refl
  starts_over a (Operates turn) early = absurd cc

  pub gives_back : (before after : Work) (seen seen_after : Order) → given_by before ≡ given.Given
      → desks.HasGivenBack (office plan) k before after seen seen_after
      → MarkerHasGivenBack (desk_at table plan kind k before seen) (desk_at table plan kind k after seen_after)
  gives_back Idle after seen seen_after gives back = absurd cc
  gives_back (Does number a) after seen seen_after gives back = record {
    count = back.count;
    few = back.few;
    made = has_made back.count _ after seen seen_after back.made;
    begins = back.after_is ∙ ap (λ (b : Attempt). Does number b) (starts_over a a.phase (not_turned (is_finished (act a)) (is_some (turn_in a.phase)) gives));
  }
