-- steps that ask for no lock, and so can't be denied one
use Rattle.std.proofs.Common.{◌≡◌, ◌≤◌, ℕ, zero, suc, List, refl, sym, ap, subst, ◌∙◌, arith, Bool, false, Some, None}
use Rattle.turns.specs.{Attempt.act, Denied.IsDeniedBy, Runs.is_available, System.System, World.{ActorOf, RecordOf}, declared.answer.Answer.Answer}
use Rattle.turns.specs.declared.{answer.Answer.TheVariants.{Asked, Seized, Held, Preferred, Again, Value, Turn, Done}, judgement.Judgement.Judgement}
use Rattle.desks.specs.{Desks.{HasMade, HasStepped, asked_by}, Kept.number_found, Met.DeskOf, Reports.{HasWorked, ended, ended_if, job_of}, Running.HasRun}
use Rattle.workers.{specs.{Tries.{GoesOnFreely, HasGoneOnFreely, denies}, Workers.HasFinished}, proofs.Trying.{asked_by_step, is_unfinished}}
use Rattle.turns.specs.declared.judgement.Judgement.TheVariants as judgement

module _ (O : System) where
  abbrev Order : Type 0
  Order = List (RecordOf O)

  -- what the laws say of a denial
  abbrev pub Denies : (Answer) → Judgement → Type 0
  Denies answer judgement =
      (k : ℕ) (before after : ActorOf O) (seen seen_after : Order) (step : HasStepped O k before after seen seen_after answer)
      → IsDeniedBy O k (act step.attempt) (number_found O step.world step.attempt) judgement

  -- an actor that makes a step had a job under way
  pub stepping_busy : (k : ℕ) (before after : ActorOf O) (seen seen_after : Order) (answer : Answer) → HasStepped O k before after seen seen_after answer
      → is_available O before ≡ false
  stepping_busy k before after seen seen_after answer step = ap (is_available O) step.before_is ∙ is_unfinished O (act step.attempt) step.goes_on

  module _ (held : (holder : ℕ) → Denies (Held holder) (judgement.Held holder))
      (preferred : (other : ℕ) → Denies (Preferred other) (judgement.Preferred other)) where
    asked_none : (lock : O.Lock) → None ≡ Some lock → ⊥
    asked_none lock e = cc

    -- a step that asks for no lock is denied none
    pub denied_none : (k : ℕ) (before after : ActorOf O) (seen seen_after : Order) (answer : Answer) → HasStepped O k before after seen seen_after answer
        → asked_by before ≡ None → denies answer ≡ false
    denied_none k before after seen seen_after answer step none = by answer step where
      asks : (answer : Answer) (judgement : Judgement) (step : HasStepped O k before after seen seen_after answer)
          → IsDeniedBy O k (act step.attempt) (number_found O step.world step.attempt) judgement → ⊥
      asks answer judgement step denial =
          asked_none denial.lock (sym none ∙ ap asked_by step.before_is
          ∙ asked_by_step O k (number_found O step.world step.attempt) step.attempt judgement denial)

      by : (answer : Answer) → HasStepped O k before after seen seen_after answer → denies answer ≡ false
      by (Asked word) step = refl
      by Seized step = refl
      by (Held holder) step = absurd (asks (Held holder) (judgement.Held holder) step (held holder k before after seen seen_after step))
      by (Preferred other) step = absurd (asks (Preferred other) (judgement.Preferred other) step (preferred other k before after seen seen_after step))
      by (Again word) step = refl
      by (Value value) step = refl
      by (Turn number) step = refl
      by Done step = refl

    -- so a desk that has made such steps, and whose job goes on, has gone on freely
    pub made_freely : {Setting : Type 0} (count : ℕ) (desk : DeskOf O Setting) (m : ActorOf O) (seen : Order)
        → HasMade O desk.number count desk.actor m desk.seen seen → is_available O m ≡ false
        → HasGoneOnFreely O count desk (record desk { actor = m; seen = seen })
    made_freely zero desk m seen made busy = λ i. record desk { actor = made.0 i; seen = made.1 i }
    made_freely {Setting} (suc count) desk m seen made busy =
        let between : ActorOf O = made.0 in
        let seen_between : Order = made.1 in
        let step = made.5 in
        let here : DeskOf O Setting = record desk { actor = between; seen = seen_between } in (
          here,
          made.2,
          made_freely count desk between seen_between made.3 (stepping_busy desk.number between m seen_between seen made.2 step),
          record { same = refl; advanced = (step, busy) },
          denied_none desk.number between m seen_between seen made.2 step made.4,
        )

    pub runs_freely : {Setting : Type 0} (count : ℕ) (desk after : DeskOf O Setting) → HasRun O count desk after → is_available O after.actor ≡ false
        → GoesOnFreely O desk after
    runs_freely {Setting} count desk after run busy = (
      busy,
      (count, subst (λ (d : DeskOf O Setting). HasGoneOnFreely O count desk d) (sym run.same) (made_freely count desk after.actor after.seen run.made busy)),
    )

  -- steps made freely, and then more of them
  pub freely_both : {Setting : Type 0} (count more : ℕ) (desk between after : DeskOf O Setting) → HasGoneOnFreely O count desk between
      → HasGoneOnFreely O more between after → (all : ℕ) × (count ≤ all) × HasGoneOnFreely O all desk after
  freely_both {Setting} count zero desk between after one other =
      (count, omega arith, subst (λ (d : DeskOf O Setting). HasGoneOnFreely O count desk d) (sym other) one)
  freely_both count (suc more) desk between after one other =
      let first = freely_both count more desk between other.0 one other.2 in
      (suc first.0, omega (arith, first.1), (other.0, other.1, first.2, other.3, other.4))

  -- a desk whose job was under way has run, and the job goes on
  module _ {Setting : Type 0} (desk after : DeskOf O Setting) (count : ℕ) (run : HasRun O count desk after)
      (works : HasWorked O desk.number desk.actor after.actor desk.seen after.seen (ended O desk.number after.actor))
      (stays : job_of O after.actor ≡ job_of O desk.actor) where
    same_number : after.number ≡ desk.number
    same_number = ap (λ d. d.number) run.same

    pub run_busy : is_available O after.actor ≡ false → HasFinished O desk after None
    run_busy busy = record {
      number = same_number;
      worked = subst (HasWorked O desk.number desk.actor after.actor desk.seen after.seen) (ap (λ (b : Bool). ended_if O b desk.number after.actor) busy) works;
      job = stays;
      its_job = tt;
    }
