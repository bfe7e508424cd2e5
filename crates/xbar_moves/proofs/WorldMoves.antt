-- a move of the office is that move of its world
use Rattle.std.proofs.Common.{◌≡◌, ◌≢◌, ℕ, zero, suc, Bool, true, false, List, [], ◌∷◌, ◌++◌, append-nil, map, slice_set, refl, sym, ◌∙◌, ap, subst, Option}
use Rattle.std.proofs.Common.{Some, None, slice_get}
use Rattle.{std.proofs.lemmas.Option.none-some, turns.specs.{Attempt.{IsValidIn, act, act_in, begin_with, closing_act, free_act, restarted}, Runs.is_finished}}
use Rattle.turns.specs.{World.{Does, World, moved}, declared.phase.Phase.TheVariants.{Requests, Seizes, Tests, Turns, Withdraws, GivesBack, Operates}}
use Rattle.{turns.proofs.Lists.set_idle, xbar_equip.specs.declared.conn.Conn.Conn, xbar_plan.specs.Tables.Tables}
use Rattle.{xbar_office.specs.declared.{job.Job.Job, reply.Reply.Reply}, xbar_jobs.specs.{Attempt.{Attempt, Phase}, Jobs.first_conn, Office.office}}
use Rattle.{xbar_jobs.specs.declared.effect.Effect.Effect, xbar_moves.specs.Exchange.{Exchange, IsLawfulExchange, Marker, Work, is_idle, turned, world}}
use Rattle.xbar_moves.{specs.{Holding.IsAt, Moves.{assigned, restarted_at, after_step}}, proofs.{Actors.actor_at, Jobs.restarted_at_is}}
use Rattle.xbar_moves.proofs.{Markers.{marker_same, works, works_set}, StepCases.step_made, Stepping.step_idle, Worlds.moved_is}
use Rattle.turns.specs.World as worlds

-- a marker that gives back has something still to give back
abbrev pub HasToGive : Attempt → Type 0
HasToGive a = a.phase ≡ GivesBack → a.held ≢ []

-- with nothing left to free, nothing is held
none_held : (held : List Conn) → is_finished (free_act {Effect = Effect} held) ≡ true → held ≡ []
none_held [] rests = refl
none_held (conn ∷ held) rests = absurd cc

none_left : (effects : List Effect) (held : List Conn) → is_finished (closing_act effects held) ≡ true → (effects ≡ []) × (held ≡ [])
none_left [] held rests = (refl, none_held held rests)
none_left (effect ∷ effects) held rests = absurd cc

module _ (plan : Tables) (e : Exchange) (k number : ℕ) (a : Attempt) (at : IsAt e k number a) where
  -- to set a marker's actor to what it is changes nothing
  actors_same : slice_set (works e.markers) k (Does number a) ≡ works e.markers
  actors_same =
      ap (slice_set (works e.markers) k) (sym at.work)
      ∙ sym (works_set e.markers k at.marker)
      ∙ ap works (marker_same e.markers k at.marker at.there)

  -- an attempt past its turn of which nothing is left makes no change
  rested : (turn : ℕ) → a.phase ≡ Operates turn → a.effects ≡ [] → a.held ≡ [] → moved (office plan) k number a (world plan e) ≡ world plan e
  rested turn past none bare =
      let b : Attempt = record a { phase = Operates turn; effects = []; held = [] } in
      let is : a ≡ b = λ i. record a { phase = past i; effects = none i; held = bare i } in
      ap (λ (c : Attempt). moved (office plan) k number c (world plan e)) is
      ∙ ap (λ (words : List ℕ). record { words = words; actors = slice_set (works e.markers) k (Does number b); order = map turned e.records ++ [] })
      (set_idle e.words 452)
      ∙ ap (λ (actors : List Work). record { words = e.words; actors = actors; order = map turned e.records ++ [] })
      (ap (λ (c : Attempt). slice_set (works e.markers) k (Does number c)) (sym is) ∙ actors_same)
      ∙ ap (λ (order : List (worlds.Record Job Reply)). record { words = e.words; actors = works e.markers; order = order }) (append-nil (map turned e.records))

  rest_moves : HasToGive a → (phase : Phase) → a.phase ≡ phase → is_finished (act_in phase a) ≡ true
      → moved (office plan) k number a (world plan e) ≡ world plan e
  rest_moves gives (Requests conn) is rests = absurd cc
  rest_moves gives (Seizes conn expected) is rests = absurd cc
  rest_moves gives (Tests word) is rests = absurd cc
  rest_moves gives Turns is rests = absurd cc
  rest_moves gives (Withdraws conn) is rests = absurd cc
  rest_moves gives GivesBack is rests = absurd (gives is (none_held a.held rests))
  rest_moves gives (Operates turn) is rests = let left = none_left a.effects a.held rests in rested turn is left.0 left.1

  -- a step is that step of its world
  pub steps_in_world : HasToGive a → world plan (after_step plan k e) ≡ moved (office plan) k number a (world plan e)
  steps_in_world gives = by (is_finished (act a)) refl where
    by : (rest : Bool) → is_finished (act a) ≡ rest → world plan (after_step plan k e) ≡ moved (office plan) k number a (world plan e)
    by true rests = ap (world plan) (step_idle plan e k at.marker at.there (ap is_idle at.work ∙ rests)) ∙ sym (rest_moves gives a.phase refl rests)
    by false goes = ap (world plan) (step_made plan e k number a at goes) ∙ sym (moved_is plan e k number at.marker a)

  -- a marker that is to begin its job anew is the actor that is
  pub restarted_in_world : world plan (restarted_at plan k e) ≡ worlds.job_restarted (office plan) k number a (world plan e)
  restarted_in_world =
      ap (world plan) (restarted_at_is plan e k number a at)
      ∙ ap (λ (actors : List Work). record { words = e.words; actors = actors; order = map turned e.records })
      (works_set e.markers k (record at.marker { work = Does number (restarted (office plan) a) }))

  -- in a lawful office a marker that gives back holds something
  pub has_to_give : IsLawfulExchange plan e → HasToGive a
  has_to_give lawful gives = subst (IsValidIn (office plan) a) gives (lawful.sound k number a (actor_at e k number a at)).valid

-- without an actor of this number, none is set
none_set : (markers : List Marker) (k : ℕ) (work : Work) → slice_get markers k ≡ None → slice_set (works markers) k work ≡ works markers
none_set [] k work none = refl
none_set (m ∷ markers) zero work none = absurd (none-some m (sym none))
none_set (m ∷ markers) (suc k) work none = ap (λ (all : List Work). m.work ∷ all) (none_set markers k work none)

-- a job that is assigned is assigned in its world
pub assigned_in_world : (plan : Tables) (e : Exchange) (k number : ℕ) (job : Job)
    → world plan (assigned k number job e) ≡ worlds.assigned (office plan) k number job (world plan e)
assigned_in_world plan e k number job = by (slice_get e.markers k) refl where
  of_actors : List Work → World (office plan)
  of_actors actors = record { words = e.words; actors = actors; order = map turned e.records }

  by : (found : Option Marker) → slice_get e.markers k ≡ found
      → world plan (assigned k number job e) ≡ worlds.assigned (office plan) k number job (world plan e)
  by None there = rw there (sym (ap of_actors (none_set e.markers k (Does number (begin_with (first_conn job) job)) there)))
  by (Some m) there = rw there (ap of_actors (works_set e.markers k (record m { work = Does number (begin_with (first_conn job) job) })))
