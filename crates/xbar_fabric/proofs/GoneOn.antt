-- what a step promises of which only the answer is reported
use Rattle.std.proofs.Common.{◌≡◌, ℕ, Bool, true, false, refl, sym, ◌∙◌, IfNone, IfSome, Option, Some, None}
use Rattle.{atomic_table.specs.Seated.TableId, turns.specs.{Law.IsLegal, Runs.is_available, declared.answer.Answer.Answer}}
use Rattle.{desks.{specs.declared.progress.JobRecord.JobRecord, proofs.Ending.{tells_at_end, told_at_end}}, xbar_plan.specs.{Tables.Tables, Lawful.IsLawful}}
use Rattle.{xbar_office.specs.declared.{job.Job.Job, reply.Reply.Reply}, xbar_jobs.specs.Office.office}
use Rattle.{xbar_moves.specs.{Exchange.{Work, is_idle}, declared.kinds.Kind.Kind}, xbar_fabric.specs.Advances.IsAnswered}
use Rattle.xbar_fabric.proofs.{Offices.Order, Steps.{has_stepped, is_answered}, ToldSteps.{finishes_job, free_idle, moves, never_idle, new, old, stays}}
use Rattle.turns.specs.World as worlds
use Rattle.desks.specs.Desks as desks
use Rattle.xbar_moves.specs.declared.event.Event.TheVariants as event

module _ (plan : Tables) (table : TableId) (kind : Kind) (k : ℕ) (before after : Work) (seen seen_after : Order) where
  abbrev pub Answered : Option Answer → Type 0
  Answered = IsAnswered (old plan table kind k before after seen seen_after) (new plan table kind k before after seen seen_after)

  module _ (answer : Answer) (step : desks.HasStepped (office plan) k before after seen seen_after answer) where
    -- a step after which something is left of the job
    on_its_way : is_available (office plan) after ≡ false → Answered (Some answer)
    unfolding moves has_stepped
    on_its_way goes = record {
      event = _;
      advanced = moves plan table kind k before after seen seen_after answer step _ refl goes;
      idle = λ idle. absurd (never_idle plan table kind k before after seen seen_after answer step idle);
      answered = λ _. is_answered plan kind k before after seen seen_after answer step;
    }

    -- the last step of the job
    at_end : IsLawful plan → (free : is_available (office plan) after ≡ true) → (reported : worlds.Record Job Reply)
        → desks.IsReported (office plan) k after seen_after reported → Answered (Some answer)
    unfolding finishes_job has_stepped
    at_end laws free reported is_told = record {
      event = _;
      advanced = finishes_job plan table kind k before after seen seen_after answer step reported laws free is_told;
      idle = λ idle. absurd (never_idle plan table kind k before after seen seen_after answer step idle);
      answered = λ _. is_answered plan kind k before after seen seen_after answer step;
    }

    pub step_answered : IsLawful plan → IsLegal (office plan) 0 (office plan).opening seen_after → desks.HasEndedIn (office plan) seen_after k after
        → Answered (Some answer)
    step_answered laws legal ends = by (is_available (office plan) after) refl where
      tells : is_available (office plan) after ≡ true → (it : Option (JobRecord Job Reply)) → desks.job_record_of (office plan) k after ≡ it
          → Answered (Some answer)
      tells free None none = absurd (tells_at_end (office plan) k after seen_after ends free none)
      tells free (Some reported) is =
          at_end laws free (desks.as_record reported) (told_at_end (office plan) k after seen_after reported legal ends free (sym is))

      by : (free : Bool) → is_available (office plan) after ≡ free → Answered (Some answer)
      by false goes = on_its_way goes
      by true free = tells free (desks.job_record_of (office plan) k after) refl

  -- an idle desk makes no step, and has no answer
  pub has_answered : IsLawful plan → IsLegal (office plan) 0 (office plan).opening seen_after → (Same : Type 0)
      → (Same → (after ≡ before) × (seen_after ≡ seen)) → (answer : Option Answer) → IfNone answer ((is_available (office plan) before ≡ true) × Same)
      → IfSome answer (desks.HasStepped (office plan) k before after seen seen_after) → IfSome answer (λ a. desks.HasEndedIn (office plan) seen_after k after)
      → Answered answer
  has_answered laws legal Same same None none stepped ends =
      let idle : is_idle before ≡ true = free_idle plan before ∙ none.0 in
      record {
        event = event.Idle;
        advanced = stays plan table kind k before after seen seen_after none.0 (same none.1).0 (same none.1).1;
        idle = λ _. refl;
        answered = λ goes_on. absurd cc;
      }
  has_answered laws legal Same same (Some answer) none stepped ends = step_answered answer stepped laws legal ends
