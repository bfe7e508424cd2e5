-- a marker's own records after its step: those before it, and that of its turn, if the step was one
use Rattle.std.proofs.Common.{◌≡◌, ℕ, Bool, true, false, List, [], ◌∷◌, ◌++◌, append-nil, refl, sym, ◌∙◌, ap, subst, ◌==◌, Option, Some, None, Result, Ok, Err}
use Rattle.std.proofs.Common.{if◌then◌else◌, option_map, unwrap_or, eq-eqb}
use Rattle.turns.specs.Attempt.{act, act_in, answer_to, change, changed, giving_back, goes_on, operated, rest_of, turn_in, unless_denied}
use Rattle.turns.specs.declared.{answer.Answer.{Answer, TheVariants.{Asked, Seized, Held, Preferred, Again, Value, Turn, Done}}, judgement.Judgement.Judgement}
use Rattle.turns.specs.declared.{phase.Phase.TheVariants.{Requests, Seizes, Tests, Turns, Withdraws, GivesBack, Operates}, wanted.Wanted.Wanted}
use Rattle.{turns.specs.declared.wanted.Wanted.TheVariants.{Seize, Test}, xbar_equip.specs.declared.conn.Conn.Conn, xbar_plan.specs.Tables.Tables}
use Rattle.{xbar_office.specs.declared.reply.{Record.Record, Reply.Reply}, xbar_jobs.specs.{Attempt.{Attempt, Phase}, Office.office}}
use Rattle.{xbar_jobs.{specs.declared.{decision.Decision.Decision, effect.Effect.Effect}, proofs.StepActs.act_answer}, xbar_moves.specs.AtWork.answer_to_step}
use Rattle.{xbar_moves.specs.Moves.{added_record, own_record, record_of}, xbar_fabric.{specs.Views.own, proofs.Finishing.{closed_done, freed_done}}}
use Rattle.turns.specs.declared.judgement.Judgement.TheVariants as judgement

-- the own records of two lists, one after the other
pub own_append : (k : ℕ) (records more : List Record) → own k (records ++ more) ≡ own k records ++ own k more
own_append k [] more = refl
own_append k (r ∷ records) more = by (r.marker == k) (own_append k records more) where
  by : (its : Bool) → own k (records ++ more) ≡ own k records ++ own k more
      → (if its then r ∷ own k (records ++ more) else own k (records ++ more)) ≡ (if its then r ∷ own k records else own k records) ++ own k more
  by true later = ap (λ (all : List Record). r ∷ all) later
  by false later = later

-- the record of a marker's turn is its own
own_of : (turn k number : ℕ) (a : Attempt) (reply : Option Reply) → a.reply ≡ reply → own k (record_of turn k number a) ≡ record_of turn k number a
own_of turn k number a None is = rw is refl
own_of turn k number a (Some reply) is = rw (is, eq-eqb k k refl) refl

pub own_added : (k number : ℕ) (a : Attempt) (answer : Answer) → own k (added_record k number a answer) ≡ added_record k number a answer
own_added k number a (Turn turn) = own_of turn k number a a.reply refl
own_added k number a (Held holder) = refl
own_added k number a (Preferred other) = refl
own_added k number a (Asked word) = refl
own_added k number a Seized = refl
own_added k number a (Again word) = refl
own_added k number a (Value value) = refl
own_added k number a Done = refl

-- the record of an attempt's turn in a phase
abbrev own_in : ℕ → ℕ → Attempt → Phase → List Record
own_in k number a phase = unwrap_or (option_map (λ turn. record_of turn k number a) (turn_in phase)) []

module _ (plan : Tables) (k number : ℕ) where
  -- after an answer the attempt has the record that it had, and what the answer adds
  abbrev Grows : Attempt → Phase → Answer → Type 0
  Grows a phase answer = own_record k number (changed (office plan) a phase answer) ≡ own_in k number a phase ++ added_record k number a answer

  -- an attempt that goes on, or is given up, has not turned
  goes_bare : (a : Attempt) (to : Result Decision (Wanted Conn ℕ)) → own_record k number (goes_on (office plan) a to) ≡ []
  goes_bare a (Ok decision) = refl
  goes_bare a (Err (Seize conn)) = refl
  goes_bare a (Err (Test word)) = refl

  freed_bare : (a : Attempt) (held : List Conn) → own_record k number (giving_back (office plan) a held) ≡ []
  freed_bare a [] = refl
  freed_bare a (conn ∷ held) = refl

  asked_grows : (a : Attempt) (conn : Conn) (word : ℕ) (j : Judgement) → Grows a (Requests conn) (unless_denied (Asked word) j)
  asked_grows a conn word judgement.Free = refl
  asked_grows a conn word (judgement.Held holder) = refl
  asked_grows a conn word (judgement.Preferred other) = refl

  seized_grows : (a : Attempt) (conn : Conn) (expected word : ℕ) (same : Bool) (j : Judgement)
      → Grows a (Seizes conn expected) (if same then Seized else unless_denied (Again word) j)
  seized_grows a conn expected word true j = goes_bare (record a { held = a.held ++ conn ∷ [] }) _
  seized_grows a conn expected word false judgement.Free = refl
  seized_grows a conn expected word false (judgement.Held holder) = refl
  seized_grows a conn expected word false (judgement.Preferred other) = refl

  operated_same : (a : Attempt) (effects : List Effect) → own_record k number (operated a effects) ≡ own_record k number a
  operated_same a [] = refl
  operated_same a (effect ∷ effects) = refl

  done_grows : (a : Attempt) (turn : ℕ) → a.phase ≡ Operates turn → Grows a (Operates turn) Done
  done_grows a turn at = operated_same a a.effects ∙ ap (own_in k number a) at ∙ sym (append-nil (own_in k number a (Operates turn)))

  phase_grows : (found : ℕ) (a : Attempt) (phase : Phase) → a.phase ≡ phase → Grows a phase (answer_to (office plan) k (act_in phase a) found)
  phase_grows found a (Requests conn) at = asked_grows a conn _ _
  phase_grows found a (Seizes conn expected) at = seized_grows a conn expected found (found == expected) _
  phase_grows found a (Tests word) at = goes_bare (record a { readings = a.readings ++ record { word = word; value = found } ∷ [] }) _
  phase_grows found a Turns at = refl
  phase_grows found a (Withdraws conn) at = freed_bare a a.held
  phase_grows found a GivesBack at = subst (Grows a GivesBack) (sym (freed_done plan k found a.held)) (freed_bare a (rest_of a.held))
  phase_grows found a (Operates turn) at = subst (Grows a (Operates turn)) (sym (closed_done plan k found a.effects a.held)) (done_grows a turn at)

  -- after its step the attempt has the record that it had, and the one that the step adds
  pub step_grows : (words : List ℕ) (a : Attempt)
      → own_record k number (change (office plan) a (answer_to_step k words a)) ≡ own_record k number a ++ added_record k number a (answer_to_step k words a)
  step_grows words a = subst (Grows a a.phase) (sym (act_answer plan k (act a) _)) (phase_grows _ a a.phase refl)

  freed_job : (a : Attempt) (held : List Conn) → (giving_back (office plan) a held).job ≡ a.job
  freed_job a [] = refl
  freed_job a (conn ∷ held) = refl

  goes_job : (a : Attempt) (to : Result Decision (Wanted Conn ℕ)) → (goes_on (office plan) a to).job ≡ a.job
  goes_job a (Ok decision) = refl
  goes_job a (Err (Seize conn)) = refl
  goes_job a (Err (Test word)) = refl

  operated_job : (a : Attempt) (effects : List Effect) → (operated a effects).job ≡ a.job
  operated_job a [] = refl
  operated_job a (effect ∷ effects) = refl

  -- whatever the answer, an attempt stays at its job
  pub changed_job : (a : Attempt) (phase : Phase) (answer : Answer) → (changed (office plan) a phase answer).job ≡ a.job
  changed_job a (Requests conn) (Asked word) = refl
  changed_job a (Requests conn) Seized = goes_job (record a { held = a.held ++ conn ∷ [] }) _
  changed_job a (Requests conn) (Held holder) = refl
  changed_job a (Requests conn) (Preferred other) = refl
  changed_job a (Seizes conn expected) Seized = goes_job (record a { held = a.held ++ conn ∷ [] }) _
  changed_job a (Seizes conn expected) (Held holder) = refl
  changed_job a (Seizes conn expected) (Preferred other) = refl
  changed_job a (Seizes conn expected) (Again word) = refl
  changed_job a (Tests word) (Value value) = goes_job (record a { readings = a.readings ++ record { word = word; value = value } ∷ [] }) _
  changed_job a Turns (Turn number) = refl
  changed_job a (Withdraws conn) Done = freed_job a a.held
  changed_job a GivesBack Done = freed_job a (rest_of a.held)
  changed_job a (Operates turn) Done = operated_job a a.effects
  changed_job a _ _ = refl
