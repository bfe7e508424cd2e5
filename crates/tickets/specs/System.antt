use Rattle.std.specs.Prelude.{◌≡◌, ℕ, ◌+◌, ◌%◌, ◌^◌, List, [], ◌∷◌, slice_index, ⊤}
use Rattle.turns.specs.Layouts.{JobsOver, Layout, laid_out, one_each}
use Rattle.turns.specs.Script.{Script, Ends, ◌>>=◌, ◌>>◌, seize, test}
use Rattle.turns.specs.Sharings.{preferring}
use Rattle.turns.specs.System.{System, SystemOver, Whole, system_of}
use Rattle.turns.specs.declared.clock.Clock.TheVariants.{Counted}
use Rattle.turns.specs.declared.operation.Operation.TheVariants.{Add}
use Rattle.tickets.specs.declared.jobs.Decision.{Decision}
use Rattle.tickets.specs.declared.jobs.Decision.TheVariants.{Takes, Tells}
use Rattle.tickets.specs.declared.jobs.Effect.{Effect}
use Rattle.tickets.specs.declared.jobs.Effect.TheVariants.{AddOne}
use Rattle.tickets.specs.declared.jobs.Job.{Job}
use Rattle.tickets.specs.declared.jobs.Job.TheVariants.{Take, Look}

-- change: what a job does, done whole; here the state is how many numbers were taken
abbrev pub whole : ℕ → Job → Whole ℕ ℕ
whole taken Take = record { state = taken + 1; reply = taken % 2 ^ 64 }
whole taken Look = record { state = taken; reply = taken % 2 ^ 64 }

-- change: when words show a state; here word 0 has the next number
pub record Shows (words : List ℕ) (taken : ℕ) : Type 0 where
  pub next : slice_index words 0 ≡ taken % 2 ^ 64

-- change: what a job does step by step, until it decides
abbrev pub script : Job → Script ℕ Decision
script Take = seize 0 >> (test 0 >>= (λ number. Ends (Takes number)))
script Look = seize 0 >> (test 0 >>= (λ number. Ends (Tells number)))

-- change: the reply and the effects of a decision
abbrev pub reply_of : Decision → ℕ
reply_of (Takes number) = number
reply_of (Tells number) = number

abbrev pub effects_of : Decision → List Effect
effects_of (Takes number) = AddOne ∷ []
effects_of (Tells number) = []

-- change: the words in groups, each under a lock; here one word under lock 0
abbrev pub layout : Layout
layout = one_each 1

abbrev pub tickets_jobs : JobsOver Job ℕ Effect
tickets_jobs = record {
  -- change: which jobs there are (such as: the row that they name exists)
  IsJob = λ job. ⊤;
  -- change: the states, and the first of them
  State = ℕ;
  whole = whole;
  opening = 0;
  Decision = Decision;
  -- change: the lock that a job seizes first
  first = λ job. 0;
  script = script;
  reply_of = reply_of;
  effects_of = effects_of;
  -- change: an effect's word, its operation there, and what it relies on
  effect_word = λ effect. 0;
  operation_of = λ effect. Add 1;
  Due = λ effect value. ⊤;
  -- change: how actors share locks; `plain` is faster, `preferring` shows requests
  sharing = preferring;
  -- change: `Ghost` if no job needs a number among all jobs; that is faster where jobs are apart
  clock = Counted;
  Shows = Shows;
}

abbrev pub tickets_over : SystemOver ℕ Job ℕ Effect
tickets_over = laid_out layout tickets_jobs

abbrev pub tickets : System
tickets = system_of tickets_over
