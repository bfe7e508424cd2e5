-- in a lawful office a marker past its turn has little left, and one that no other is in the way of comes to its end
use Rattle.std.proofs.Common.{◌≡◌, ℕ, zero, suc, ◌-◌, ◌≤◌, Bool, true, false, List, [], ◌++◌, length, length-append, refl, sym, ◌∙◌, ap, subst, arith}
use mathlib.Core.Option.{some}
use lib.ListN.{get_elem?}
use Rattle.turns.specs.{Among.{AreDistinct, IsIn}, Attempt.act, Law.{FitsIn, IsOperating, IsSound}, Script.run, Runs.is_finished, World.{ActorOf, Does, World}}
use Rattle.turns.{specs.declared.phase.Phase.TheVariants.Operates, proofs.{AloneEnds.alone_ends, Moving.keeps, Words.run_ends}}
use Rattle.xbar_equip.{specs.{Conn.IsConn, Word.{ConnWord, word_number}, declared.conn.Conn.Conn}, proofs.WordNumbers.{conn_range, distinct_conns}}
use Rattle.{xbar_plan.specs.{Tables.Tables, Lawful.IsLawful}, xbar_jobs.specs.{Attempt.{Attempt, Phase}, Closing.{effects as effects_of}, Office.office}}
use Rattle.xbar_jobs.specs.{Standing.{most_effects, most_readings, most_seizings}, declared.{decision.Decision.Decision, effect.Effect.Effect}}
use Rattle.xbar_jobs.proofs.{FewConns.few_distinct, JobBounds.jobs_bounded, OfficeSystem.office_is}
use Rattle.xbar_moves.specs.{Exchange.{Exchange, IsLawfulExchange, is_idle, world}, Holding.IsAt, Moves.{after_step, steps}, Settling.most_steps_alone}
use Rattle.xbar_moves.proofs.{Actors.actor_at, Markers.marker_there, StepCases.gone_on, Stepping.step_idle, WorldMoves.{has_to_give, steps_in_world}}
use Rattle.{xbar_moves.proofs.Worlds.lawful_stepped, xbar_core.proofs.Ending.{IsIdleAt, free_idle, past_ends}}
use Rattle.turns.specs.Bounds as bounds
use Rattle.turns.specs.Runs as runs

-- the place of a connector's word among the connectors' words
abbrev place_of : Conn → ℕ
place_of conn = word_number (ConnWord conn) - 416

one_place : (a b : Conn) → IsConn a → IsConn b → place_of a ≡ place_of b → a ≡ b
one_place a b range other same = let this = conn_range a range in let that = conn_range b other in
    distinct_conns a b range other (omega (arith, this, that, same))

-- so there are no more than there are connectors
few_conns : (conns : List Conn) → ((c : Conn) → IsIn c conns → IsConn c) → AreDistinct conns → length conns ≤ 36
few_conns conns all apart =
    few_distinct place_of conns 36 (λ one other here there. one_place one other (all one here) (all other there))
    (λ conn within. let range = conn_range conn (all conn within) in omega (arith, range)) apart

module _ (plan : Tables) (laws : IsLawful plan) (e : Exchange) (lawful : IsLawfulExchange plan e) (k number : ℕ) (a : Attempt) (at : IsAt e k number a) where
  sound : IsSound (office plan) (world plan e) k number a
  sound = lawful.sound k number a (actor_at e k number a at)

  -- past its turn a marker has no more effects left than its job has
  few_left : (turn : ℕ) → a.phase ≡ Operates turn → length a.effects ≤ most_effects
  few_left turn past =
      let fits : IsOperating (office plan) e.words (world plan e).order k number turn a =
      subst (λ (p : Phase). FitsIn (office plan) (world plan e) k number a p) past sound.fits in
      let decision : Decision = run fits.decided.words ((office plan).script a.job) in
      let few =
      run_ends (λ (d : Decision). length (effects_of d) ≤ most_effects) fits.decided.words ((office plan).script a.job) fits.decided.are_words
      ((jobs_bounded plan laws).effects a.job sound.job) in
      let all : length (effects_of decision) ≡ length (fits.decided.made ++ a.effects) = ap (length {A = Effect}) fits.decided.effects in
      let size = length-append fits.decided.made a.effects in
      omega (arith, few, all, size)

  -- so it ends within the steps that settling makes
  pub past_idle : (turn : ℕ) → a.phase ≡ Operates turn → IsIdleAt (steps plan k most_steps_alone e) k
  past_idle turn past =
      let left = few_left turn past in
      let held = few_conns a.held (λ c within. (sound.held c within).there) sound.distinct in
      past_ends plan k turn number most_steps_alone e a at past (omega (arith, left, held))

module _ (plan : Tables) where
  -- a marker at an attempt stays at one
  next_at : (e : Exchange) (k number : ℕ) (a : Attempt) → IsAt e k number a → (b : Attempt) × IsAt (after_step plan k e) k number b
  next_at e k number a at = by (is_finished (act a)) refl where
    by : (rest : Bool) → is_finished (act a) ≡ rest → (b : Attempt) × IsAt (after_step plan k e) k number b
    by true rests = (a, subst (λ (x : Exchange). IsAt x k number a) (sym (step_idle plan e k at.marker at.there (ap is_idle at.work ∙ rests))) at)
    by false goes = (_, gone_on plan e k number a at goes)

  module _ (laws : IsLawful plan) where
    -- its steps are those of its world
    steps_same : (count : ℕ) (e : Exchange) (k number : ℕ) (a : Attempt) → IsLawfulExchange plan e → IsAt e k number a
        → world plan (steps plan k count e) ≡ bounds.after_steps (office plan) k count (world plan e)
    unfolding steps
    steps_same zero e k number a lawful at = refl
    steps_same (suc count) e k number a lawful at =
        let next = next_at e k number a at in
        let actor : get_elem? (world plan e).actors k ≡ some (Does number a) = actor_at e k number a at in
        let one : world plan (after_step plan k e) ≡ runs.stepped_at (office plan) k (get_elem? (world plan e).actors k) (world plan e) =
        steps_in_world plan e k number a at (has_to_give plan e k number a at lawful)
        ∙ ap (λ o. runs.stepped_at (office plan) k o (world plan e)) (sym actor) in
        steps_same count (after_step plan k e) k number next.0 (lawful_stepped plan e k laws lawful) next.1
        ∙ ap (bounds.after_steps (office plan) k count) one

    -- one that holds nothing, with no other in its way, comes to its end
    pub aside_idle : (e : Exchange) (k number : ℕ) (a : Attempt) → IsLawfulExchange plan e → IsAt e k number a → a.held ≡ []
        → ((j : ℕ) (other : ActorOf (office plan)) → ¬ (j ≡ k) → get_elem? (world plan e).actors j ≡ some other → bounds.IsAside (office plan) other)
        → IsIdleAt (steps plan k most_steps_alone e) k
    aside_idle e k number a lawful at bare aside =
        let none : length a.held ≡ 0 = ap (length {A = Conn}) bare in
        let end = alone_ends (office plan) (office_is plan laws) most_readings most_seizings most_effects (jobs_bounded plan laws)
        (λ w j n b now valid. keeps (office plan) (office_is plan laws) w now j n b valid) k number (world plan e) a most_steps_alone lawful
        (actor_at e k number a at) aside (omega (arith, none)) in
        let there = ap (λ (w : World (office plan)). get_elem? w.actors k) (steps_same most_steps_alone e k number a lawful at) ∙ end.1 in
        let found = marker_there (steps plan k most_steps_alone e).markers k end.0 there in
        record { marker = found.marker; there = found.there; idle = ap is_idle found.at ∙ free_idle plan end.0 end.2 }
