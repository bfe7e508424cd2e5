-- the step after which nothing is left of a job reports its record
use Rattle.std.proofs.Common.{◌≡◌, ◌≢◌, ℕ, Bool, true, false, List, [], ◌∷◌, ◌++◌, refl, subst, ◌==◌, Result, Ok, Err, if◌then◌else◌}
use Rattle.turns.specs.Attempt.{HasDecided, act, act_in, answer_to, changed, closing_act, walk_result, free_act, goes_on, next, unless_denied, walks_on}
use Rattle.turns.specs.{Runs.is_finished, Script.{Script, Ends, TestThen, SeizeThen, first_wanted, is_held, left, left_of_seizing, walk}, Seen.Seen}
use Rattle.turns.specs.declared.{answer.Answer.TheVariants.{Asked, Seized, Again, Done}, judgement.Judgement.Judgement, phase.Phase.TheVariants.Requests}
use Rattle.turns.specs.declared.{phase.Phase.TheVariants.{Seizes, Tests, Turns, Withdraws, GivesBack, Operates}, wanted.Wanted.{Wanted, TheVariants.Seize}}
use Rattle.{turns.specs.declared.wanted.Wanted.TheVariants.Test, xbar_equip.specs.{Conn.conn_eq, declared.conn.Conn.Conn}, xbar_plan.specs.Tables.Tables}
use Rattle.xbar_jobs.specs.{Attempt.{Attempt, Phase}, Office.office, declared.{decision.Decision.Decision, effect.Effect.Effect}}
use Rattle.turns.specs.declared.judgement.Judgement.TheVariants as judgement

-- a script that seizes a connector first is not at its end while nothing is held
first_seizes : (seen : Seen Conn) (script : Script Conn Decision) (conn : Conn) (decision : Decision) → seen.held ≡ [] → first_wanted script ≡ Err (Seize conn)
    → walk conn_eq seen script ≢ Ok decision
unfolding first_wanted walk left left_of_seizing is_held
first_seizes seen (Ends found) conn decision none first come = absurd cc
first_seizes seen (TestThen word script) conn decision none first come = absurd cc
first_seizes seen (SeizeThen lock script) conn decision none first come =
    let is : first_wanted (left_of_seizing script (left conn_eq seen script) lock (is_held conn_eq [] lock)) ≡ Ok decision =
    subst (λ (held : List Conn). first_wanted (left_of_seizing script (left conn_eq seen script) lock (is_held conn_eq held lock)) ≡ Ok decision) none come in
    absurd cc

module _ (plan : Tables) where
  -- nor has it decided then
  pub decides_none : (a : Attempt) (conn : Conn) → first_wanted ((office plan).script a.job) ≡ Err (Seize conn) → HasDecided (office plan) a → a.held ≢ []
  decides_none a conn first decided none = first_seizes _ ((office plan).script a.job) conn decided.decision none first decided.come

  -- an attempt that goes on is not at rest
  goes_on_busy : (a : Attempt) (to : Result Decision (Wanted Conn ℕ)) → is_finished (act (goes_on (office plan) a to)) ≡ true → ⊥
  goes_on_busy a (Ok decision) rests = cc
  goes_on_busy a (Err (Seize conn)) rests = cc
  goes_on_busy a (Err (Test word)) rests = cc

  walked_busy : (a : Attempt) → is_finished (act (walks_on (office plan) a)) ≡ true → ⊥
  walked_busy a rests = goes_on_busy a (walk_result (office plan) a) rests

  asked_busy : (a : Attempt) (conn : Conn) (word : ℕ) (j : Judgement)
      → is_finished (act (changed (office plan) a (Requests conn) (unless_denied (Asked word) j))) ≡ true → ⊥
  asked_busy a conn word judgement.Free rests = cc
  asked_busy a conn word (judgement.Held holder) rests = cc
  asked_busy a conn word (judgement.Preferred other) rests = cc

  seized_busy : (a : Attempt) (conn : Conn) (expected word : ℕ) (same : Bool) (j : Judgement)
      → is_finished (act (changed (office plan) a (Seizes conn expected) (if same then Seized else unless_denied (Again word) j))) ≡ true → ⊥
  seized_busy a conn expected word true j rests = walked_busy (record a { held = a.held ++ conn ∷ [] }) rests
  seized_busy a conn expected word false judgement.Free rests = cc
  seized_busy a conn expected word false (judgement.Held holder) rests = cc
  seized_busy a conn expected word false (judgement.Preferred other) rests = cc

  closed_bare : (effects : List Effect) (held : List Conn) → is_finished (closing_act effects held) ≡ true → held ≡ []
  closed_bare [] [] rests = refl
  closed_bare [] (conn ∷ held) rests = absurd cc
  closed_bare (effect ∷ effects) held rests = absurd cc

  -- a free is answered with Done, and so is each step past the turn
  pub freed_done : (k found : ℕ) (held : List Conn) → answer_to (office plan) k (free_act held) found ≡ Done
  freed_done k found [] = refl
  freed_done k found (conn ∷ held) = refl

  pub closed_done : (k found : ℕ) (effects : List Effect) (held : List Conn) → answer_to (office plan) k (closing_act effects held) found ≡ Done
  closed_done k found [] held = freed_done k found held
  closed_done k found (effect ∷ effects) held = refl

  -- the answer to a step after which an attempt is at rest is Done
  rests_done : (k found : ℕ) (a : Attempt) (phase : Phase) → (phase ≡ Turns → a.held ≢ [])
      → is_finished (act (changed (office plan) a phase (answer_to (office plan) k (act_in phase a) found))) ≡ true
      → answer_to (office plan) k (act_in phase a) found ≡ Done
  rests_done k found a (Requests conn) holds rests = absurd (asked_busy a conn _ _ rests)
  rests_done k found a (Seizes conn expected) holds rests = absurd (seized_busy a conn expected found (found == expected) _ rests)
  rests_done k found a (Tests word) holds rests = absurd (walked_busy (record a { readings = a.readings ++ record { word = word; value = found } ∷ [] }) rests)
  rests_done k found a Turns holds rests = absurd (holds refl (closed_bare a.effects a.held rests))
  rests_done k found a (Withdraws conn) holds rests = refl
  rests_done k found a GivesBack holds rests = freed_done k found a.held
  rests_done k found a (Operates turn) holds rests = closed_done k found a.effects a.held

  pub ends_done : (k found : ℕ) (a : Attempt) → (a.phase ≡ Turns → a.held ≢ []) → is_finished (act (next (office plan) k a found)) ≡ true
      → answer_to (office plan) k (act a) found ≡ Done
  ends_done k found a holds rests = rests_done k found a a.phase holds rests
