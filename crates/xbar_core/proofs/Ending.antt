-- a marker past its turn comes to its end
use Rattle.std.proofs.Common.{◌≡◌, ℕ, zero, suc, ◌+◌, ◌≤◌, Bool, true, false, List, [], ◌∷◌, length, refl, sym, ◌∙◌, ap, subst, arith, Some, slice_get}
use Rattle.turns.specs.{Attempt.{act, act_in, change, changed, closing_act, operated}, Law.IsAvailable, Runs.is_finished, World.{Idle, Does}}
use Rattle.{turns.specs.declared.{answer.Answer.Answer, phase.Phase.TheVariants.Operates}, xbar_equip.specs.declared.conn.Conn.Conn}
use Rattle.{xbar_plan.specs.Tables.Tables, xbar_jobs.specs.{Attempt.{Attempt, Phase}, Office.office, declared.effect.Effect.Effect}}
use Rattle.xbar_moves.specs.{AtWork.answer_to_step, Exchange.{Exchange, Marker, Work, is_idle}, Holding.IsAt, Moves.{after_answer, steps}}
use Rattle.xbar_moves.proofs.{StepCases.{now_at, step_made}, Stepping.step_idle, Worlds.{answer_is, found_by}}
use Rattle.turns.specs.Attempt as generic

-- marker k is idle
pub record IsIdleAt (e : Exchange) (k : ℕ) : Type 0 where
  pub marker : Marker
  pub there : slice_get e.markers k ≡ Some marker
  pub idle : is_idle marker.work ≡ true

-- an attempt past its turn, with this many effects to make and connectors to free
record HasLeft (turn : ℕ) (b : Attempt) (left : ℕ) : Type 0 where
  pub phase : b.phase ≡ Operates turn
  pub one : suc (length b.effects + length b.held) ≡ left

module _ (plan : Tables) where
  -- an idle marker's steps change nothing
  pub steps_idle : (k count : ℕ) (e : Exchange) (m : Marker) → slice_get e.markers k ≡ Some m → is_idle m.work ≡ true → steps plan k count e ≡ e
  unfolding steps
  steps_idle k zero e m there idle = refl
  steps_idle k (suc count) e m there idle = ap (steps plan k count) (step_idle plan e k m there idle) ∙ steps_idle k count e m there idle

  pub stays_idle : (k count : ℕ) (e : Exchange) (m : Marker) → slice_get e.markers k ≡ Some m → is_idle m.work ≡ true → IsIdleAt (steps plan k count e) k
  stays_idle k count e m there idle =
      subst (λ (x : Exchange). IsIdleAt x k) (sym (steps_idle k count e m there idle)) (record { marker = m; there = there; idle = idle })

  -- past the turn there is one thing less to make or to free with each step
  closing_less : (k found turn : ℕ) (a : Attempt) (effects : List Effect) (held : List Conn) → a.phase ≡ Operates turn → a.effects ≡ effects → a.held ≡ held
      → is_finished (closing_act effects held) ≡ false
      → HasLeft turn (changed (office plan) a (Operates turn) (generic.answer_to (office plan) k (closing_act effects held) found))
      (length effects + length held)
  closing_less k found turn a [] [] at these those goes = absurd cc
  closing_less k found turn a [] (conn ∷ held) at these those goes =
      let none : length a.effects ≡ 0 = ap (length {A = Effect}) these in
      let rest : length (generic.rest_of a.held) ≡ length held = ap (λ (all : List Conn). length (generic.rest_of all)) those in
      subst (λ (all : List Effect). HasLeft turn (operated a all) (0 + length (conn ∷ held))) (sym these)
      (record { phase = at; one = omega (arith, none, rest) })
  closing_less k found turn a (effect ∷ effects) held at these those goes =
      let same : length a.held ≡ length held = ap (length {A = Conn}) those in
      subst (λ (all : List Effect). HasLeft turn (operated a all) (length (effect ∷ effects) + length held)) (sym these)
      (record { phase = at; one = omega (arith, same) })

  one_closed : (k turn : ℕ) (words : List ℕ) (a : Attempt) → a.phase ≡ Operates turn → is_finished (act a) ≡ false
      → HasLeft turn (change (office plan) a (answer_to_step k words a)) (length a.effects + length a.held)
  one_closed k turn words a at goes =
      subst (λ (answer : Answer). HasLeft turn (change (office plan) a answer) (length a.effects + length a.held)) (sym (answer_is plan k words a))
      (subst (λ (phase : Phase). HasLeft turn (changed (office plan) a phase (generic.answer_to (office plan) k (act_in phase a) (found_by plan words a)))
      (length a.effects + length a.held)) (sym at)
      (closing_less k (found_by plan words a) turn a a.effects a.held at refl refl (subst (λ (phase : Phase). is_finished (act_in phase a) ≡ false) at goes)))

  -- so it ends, whatever the others do
  ends_if : (k turn n count : ℕ) (e : Exchange) (a : Attempt) (idle : Bool) → is_finished (act a) ≡ idle → IsAt e k n a → a.phase ≡ Operates turn
      → length a.effects + length a.held ≤ count → IsIdleAt (steps plan k count e) k
  unfolding steps
  ends_if k turn n count e a true rest at phase few = stays_idle k count e at.marker at.there (ap is_idle at.work ∙ rest)
  ends_if k turn n zero e a false goes at phase few = let left = one_closed k turn e.words a phase goes in absurd (omega (arith, left.one))
  ends_if k turn n (suc less) e a false goes at phase few =
      let left = one_closed k turn e.words a phase goes in
      let b = change (office plan) a (answer_to_step k e.words a) in
      subst (λ (x : Exchange). IsIdleAt (steps plan k less x) k) (sym (step_made plan e k n a at goes))
      (ends_if k turn n less (after_answer plan k at.marker n a (answer_to_step k e.words a) e) b (is_finished (act b)) refl
      (now_at plan e k n a (answer_to_step k e.words a) at) left.phase (omega (arith, left.one)))

  pub past_ends : (k turn n count : ℕ) (e : Exchange) (a : Attempt) → IsAt e k n a → a.phase ≡ Operates turn → length a.effects + length a.held ≤ count
      → IsIdleAt (steps plan k count e) k
  past_ends k turn n count e a at phase few = ends_if k turn n count e a (is_finished (act a)) refl at phase few

  -- a marker that is free for a job is idle
  pub free_idle : (work : Work) → IsAvailable (office plan) work → is_idle work ≡ true
  free_idle Idle free = refl
  free_idle (Does n a) free = ap is_finished free
