use Rattle.std.specs.Prelude.{ℕ, ◌-◌, ◌^◌}
use Rattle.turns.specs.Attempt as generic
use Rattle.turns.specs.declared.act.Act as declared
use Rattle.turns.specs.Attempt.{begin_with}
use Rattle.turns.specs.declared.act.Act.TheVariants.{Finished, Request, Seize, Withdraw, Free, Test, Turn, Make}
use Rattle.turns.specs.declared.phase.Phase as phases
use Rattle.attempts.specs.Counting as counting
use Rattle.xbar_equip.specs.Word.{GroupWord, word_number}
use Rattle.xbar_equip.specs.declared.conn.Conn.{Conn}
use Rattle.xbar_switch.specs.Field.{close_bits_of, open_mask_of}
use Rattle.xbar_match.specs.Switches.{shape_at}
use Rattle.xbar_office.specs.declared.job.Job.{Job}
use Rattle.xbar_office.specs.declared.reply.Reply.{Reply}
use Rattle.xbar_jobs.specs.Jobs.{first_conn}
use Rattle.xbar_jobs.specs.declared.effect.Effect.{Effect}
use Rattle.xbar_jobs.specs.declared.effect.Effect.TheVariants.{Close, Open, SetBit, ClearBit}
use Rattle.xbar_jobs.specs.declared.program.Step.{Step}
use Rattle.xbar_jobs.specs.declared.program.Step.TheVariants as step

-- an attempt at a job of the office
abbrev pub Attempt : Type 0
Attempt = generic.Attempt Conn Job Reply Effect

-- what an attempt does next
abbrev pub Act : Type 0
Act = declared.Act Conn Effect

-- how far an attempt is
abbrev pub Phase : Type 0
Phase = phases.Phase Conn ℕ

-- an attempt with the number of atomic steps that it took so far
abbrev pub Counted : Type 0
Counted = counting.Counted Conn Job Reply Effect

-- an attempt at a job that has made no step
abbrev pub fresh : Job → Counted
fresh job = record { attempt = begin_with (first_conn job) job; count = 0 }

-- the count after one step more, which stays at the largest number of 32 bits
abbrev pub counted : ℕ → ℕ
counted count = counting.counted count

-- an attempt with this count of steps; one that begins anew counts from 0
abbrev pub with_count : ℕ → Attempt → Counted
with_count count a = counting.with_count count a

-- the step that makes an effect, with the bits that a close sets, or the mask of those that an
-- open keeps
abbrev pub effect_step : Effect → Step
effect_step (Close c) = step.Close c.word (close_bits_of (shape_at c.word) c.field (c.value - 1))
effect_step (Open c) = step.Open c.word (open_mask_of (shape_at c.word) c.field)
effect_step (SetBit number index) = step.Close (word_number (GroupWord number)) (2 ^ index)
effect_step (ClearBit number index) =
    step.Open (word_number (GroupWord number)) (2 ^ 64 - 1 - 2 ^ index)

-- the step that makes an act
abbrev pub step_of : Act → Step
step_of Finished = step.Finished
step_of (Request conn) = step.Request conn
step_of (Seize conn expected) = step.Seize conn expected
step_of (Withdraw conn) = step.Withdraw conn
step_of (Free conn) = step.Free conn
step_of (Test word) = step.Test word
step_of Turn = step.Turn
step_of (Make effect) = effect_step effect

-- an attempt's next step
abbrev pub next_step : Attempt → Step
next_step a = step_of (generic.act a)
