-- a desk that runs on by steps that ask for no connector
use Rattle.std.proofs.Common.{◌≡◌, ◌<◌, ℕ, zero, suc, false, arith, refl, sym, ◌∙◌, subst}
use Rattle.{atomic_table.specs.Seated.TableId, turns.specs.{Attempt.change, Law.IsLegal, Runs.is_available, declared.answer.Answer.Answer}}
use Rattle.{xbar_plan.specs.{Tables.Tables, Lawful.IsLawful}, xbar_jobs.specs.Office.office}
use Rattle.{xbar_moves.specs.{Exchange.{Work, is_idle}, Moves.event_of, declared.kinds.Kind.Kind}, xbar_fabric.specs.{Advances.MarkerHasRun, Views.HasJobNo}}
use Rattle.xbar_fabric.proofs.{GoneOn.step_answered, Offices.Order, Steps.{desk_at, goes_on_at}, ToldSteps.{free_idle, moves}}
use Rattle.desks.specs.Desks as desks

-- steps leave a job its number
pub keeps_number : (plan : Tables) (k count : ℕ) (before after : Work) (seen seen_after : Order)
    → desks.HasMade (office plan) k count before after seen seen_after → HasJobNo before → HasJobNo after
keeps_number plan k zero before after seen seen_after made has = subst HasJobNo (sym made.0) has
keeps_number plan k (suc count) before after seen seen_after (between, seen_between, answer, made, asks, step) has =
    subst HasJobNo (sym step.after_is) (subst HasJobNo step.before_is (keeps_number plan k count before between seen seen_between made has))

module _ (plan : Tables) (table : TableId) (kind : Kind) (k : ℕ) where
  -- who makes a step is not idle
  busy : (before after : Work) (seen seen_after : Order) (answer : Answer) → desks.HasStepped (office plan) k before after seen seen_after answer
      → is_idle before ≡ false
  busy before after seen seen_after answer step =
      subst (λ (m : Work). is_idle m ≡ false) (sym step.before_is) (goes_on_at plan kind k before after seen seen_after answer step)

  -- steps after which something is left of the job
  on_their_way : (count : ℕ) (before after : Work) (seen seen_after : Order) → desks.HasMade (office plan) k count before after seen seen_after
      → is_available (office plan) after ≡ false → MarkerHasRun count (desk_at table plan kind k before seen) (desk_at table plan kind k after seen_after)
  on_their_way zero before after seen seen_after made goes = λ i. desk_at table plan kind k (made.0 i) (made.1 i)
  on_their_way (suc count) before after seen seen_after (between, seen_between, answer, made, asks, step) goes =
      let its = busy between after seen_between seen_after answer step in (
        desk_at table plan kind k between seen_between,
        event_of k step.number step.attempt (change (office plan) step.attempt answer) answer,
        on_their_way count before between seen seen_between made (sym (free_idle plan between) ∙ its),
        its,
        asks,
        moves plan table kind k between after seen_between seen_after answer step _ refl goes,
      )

  -- and with the last one, which may end the job
  pub runs : (count : ℕ) (before after : Work) (seen seen_after : Order) → IsLawful plan → IsLegal (office plan) 0 (office plan).opening seen_after
      → (0 < count → desks.HasEndedIn (office plan) seen_after k after)
      → desks.HasMade (office plan) k count before after seen seen_after
      → MarkerHasRun count (desk_at table plan kind k before seen) (desk_at table plan kind k after seen_after)
  runs zero before after seen seen_after laws legal ends made = λ i. desk_at table plan kind k (made.0 i) (made.1 i)
  runs (suc count) before after seen seen_after laws legal ends (between, seen_between, answer, made, asks, step) =
      let its = busy between after seen_between seen_after answer step in
      let reported = step_answered plan table kind k between after seen_between seen_after answer step laws legal (ends (omega arith)) in (
        desk_at table plan kind k between seen_between,
        reported.event,
        on_their_way count before between seen seen_between made (sym (free_idle plan between) ∙ its),
        its,
        asks,
        reported.advanced,
      )
