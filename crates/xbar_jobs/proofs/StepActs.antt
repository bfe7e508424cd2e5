-- a step's word, operation and answer are those of the act that it makes
use Rattle.std.proofs.Common.{◌≡◌, ℕ, refl}
use Rattle.{turns.specs.{declared.act.Act.TheVariants.{Finished, Request, Seize, Withdraw, Free, Test, Turn, Make}, World.place}, xbar_plan.specs.Tables.Tables}
use Rattle.xbar_jobs.specs.{Attempt.{Act, step_of}, Office.office, OnWords.{step_answer, operation, step_word}}
use Rattle.xbar_jobs.specs.declared.effect.Effect.TheVariants.{Close, Open, SetBit, ClearBit}
use Rattle.turns.specs.Attempt as generic
use Rattle.turns.specs.World as worlds

pub act_word : (plan : Tables) (act : Act) → step_word (step_of act) ≡ place (office plan) act
act_word plan Finished = refl
act_word plan (Request conn) = refl
act_word plan (Seize conn expected) = refl
act_word plan (Withdraw conn) = refl
act_word plan (Free conn) = refl
act_word plan (Test word) = refl
act_word plan Turn = refl
act_word plan (Make (Close c)) = refl
act_word plan (Make (Open c)) = refl
act_word plan (Make (SetBit number index)) = refl
act_word plan (Make (ClearBit number index)) = refl

pub act_operation : (plan : Tables) (marker : ℕ) (act : Act) → operation marker (step_of act) ≡ worlds.operation (office plan) marker act
act_operation plan marker Finished = refl
act_operation plan marker (Request conn) = refl
act_operation plan marker (Seize conn expected) = refl
act_operation plan marker (Withdraw conn) = refl
act_operation plan marker (Free conn) = refl
act_operation plan marker (Test word) = refl
act_operation plan marker Turn = refl
act_operation plan marker (Make (Close c)) = refl
act_operation plan marker (Make (Open c)) = refl
act_operation plan marker (Make (SetBit number index)) = refl
act_operation plan marker (Make (ClearBit number index)) = refl

pub act_answer : (plan : Tables) (marker : ℕ) (act : Act) (found : ℕ)
    → step_answer marker (step_of act) found ≡ generic.answer_to (office plan) marker act found
act_answer plan marker Finished found = refl
act_answer plan marker (Request conn) found = refl
act_answer plan marker (Seize conn expected) found = refl
act_answer plan marker (Withdraw conn) found = refl
act_answer plan marker (Free conn) found = refl
act_answer plan marker (Test word) found = refl
act_answer plan marker Turn found = refl
act_answer plan marker (Make (Close c)) found = refl
act_answer plan marker (Make (Open c)) found = refl
act_answer plan marker (Make (SetBit number index)) found = refl
act_answer plan marker (Make (ClearBit number index)) found = refl
