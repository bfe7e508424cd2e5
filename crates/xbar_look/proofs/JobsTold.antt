-- what is told of a marker's job
use Rattle.std.proofs.Common.{◌≡◌, ℕ, zero, suc, ◌+◌, ◌<◌, ◌%◌, Bool, true, false, List, [], ◌∷◌, refl, sym, ◌∙◌, ap, subst, eq-eqb, arith, eqb-true, ◌↔◌}
use Rattle.std.proofs.Common.{Option, None, Some, if◌then◌else◌, slice_get}
use Rattle.{std.specs.Int.bit_at, turns.specs.{Among.IsIn, Attempt.{act, act_in, closing_act, free_act, request_in}, Runs.is_finished}}
use Rattle.turns.specs.{Sharing.{actor_of_holder, held_by}, Sharings.preferring, World.{Idle, Does}, declared.phase.Phase.TheVariants.{Requests, Seizes, Tests}}
use Rattle.{turns.specs.declared.phase.Phase.TheVariants.{Turns, Withdraws, GivesBack, Operates}, xbar_equip.specs.{Conn.IsConn, declared.conn.Conn.Conn}}
use Rattle.{xbar_plan.specs.Tables.Tables, xbar_jobs.specs.{Attempt.{Attempt, Phase, next_step}, OnWords.answer_of, declared.effect.Effect.Effect}}
use Rattle.xbar_moves.specs.{AtWork.next_step_at, Exchange.{Exchange, IsLawfulExchange, Marker, Work as TheWork, is_idle, on_job}}
use Rattle.xbar_moves.specs.{Holding.{HasRequested, Holds, IsAt}, Moves.{after_answer, after_step}}
use Rattle.{xbar_moves.proofs.{Connectors.{conn_word, tells_truth}, StepCases.step_made}, xbar_look.specs.Jobs.{UnderWay, held_for, requested_for, under_way}}

-- the job of this work, unless it is idle
abbrev job_by : TheWork → Option UnderWay
job_by work = if is_idle work then None else on_job None (λ number a. Some (record { number = number; attempt = a })) work

-- a job that is told is the marker's, and something is left of it
pub record IsOf (work : TheWork) (u : UnderWay) : Type 0 where
  pub is : work ≡ Does u.number u.attempt
  pub goes : is_finished (act u.attempt) ≡ false

pub told_of : (work : TheWork) (u : UnderWay) → job_by work ≡ Some u → IsOf work u
told_of Idle u told = absurd cc
told_of (Does number a) u told = by (is_finished (act a)) refl told where
  by : (idle : Bool) → is_finished (act a) ≡ idle → (if idle then None else Some (record { number = number; attempt = a })) ≡ Some u → IsOf (Does number a) u
  by true rest told = absurd cc
  by false goes told =
      let same : record { number = number; attempt = a } ≡ u = cc in
      subst (IsOf (Does number a)) same (record { is = refl; goes = goes })

-- and such a job is told
of_told : (work : TheWork) (u : UnderWay) → IsOf work u → job_by work ≡ Some u
of_told work u of = ap job_by of.is ∙ ap (λ (idle : Bool). if idle then None else Some u) of.goes

-- a marker without a job is told so
pub told_idle : (work : TheWork) → (job_by work ≡ None) ↔ (is_idle work ≡ true)
told_idle Idle = (λ told. refl, λ idle. refl)
told_idle (Does number a) = by (is_finished (act a)) where
  u : UnderWay
  u = record { number = number; attempt = a }

  by : (idle : Bool) → ((if idle then None else Some u) ≡ None) ↔ (idle ≡ true)
  by true = (λ told. refl, λ idle. refl)
  by false = (λ told. absurd cc, λ idle. absurd cc)

-- the next step that is told is the one that is made next
module _ (plan : Tables) (e : Exchange) (k : ℕ) (m : Marker) (u : UnderWay) (there : slice_get e.markers k ≡ Some m) (told : under_way m ≡ Some u) where
  abbrev is_at : IsAt e k u.number u.attempt
  is_at = record { marker = m; there = there; work = (told_of m.work u told).is }

  pub next_made : after_step plan k e ≡ after_answer plan k m u.number u.attempt (answer_of k (next_step u.attempt) e.words) e
  next_made = step_made plan e k u.number u.attempt is_at (told_of m.work u told).goes

pub next_told : (m : Marker) (u : UnderWay) → under_way m ≡ Some u → next_step_at m.work ≡ next_step u.attempt
next_told m u told = ap next_step_at (told_of m.work u told).is

-- an attempt that holds a connector or requests one isn't finished
freeing : (conn : Conn) (held : List Conn) → IsIn conn held → is_finished (free_act {Effect = Effect} held) ≡ false
freeing conn [] within = absurd within
freeing conn (first ∷ held) within = refl

holding : (conn : Conn) (a : Attempt) → IsIn conn a.held → is_finished (act a) ≡ false
holding conn a within = by a.phase where
  closing : (effects : List Effect) → is_finished (closing_act effects a.held) ≡ false
  closing [] = freeing conn a.held within
  closing (effect ∷ effects) = refl

  by : (phase : Phase) → is_finished (act_in phase a) ≡ false
  by (Requests lock) = refl
  by (Seizes lock expected) = refl
  by (Tests word) = refl
  by Turns = refl
  by (Withdraws lock) = refl
  by GivesBack = freeing conn a.held within
  by (Operates turn) = closing a.effects

requesting : (conn : Conn) (a : Attempt) → request_in a.phase ≡ Some conn → is_finished (act a) ≡ false
requesting conn a asks = by a.phase asks where
  by : (phase : Phase) → request_in phase ≡ Some conn → is_finished (act_in phase a) ≡ false
  by (Requests lock) asks = refl
  by (Seizes lock expected) asks = refl
  by (Tests word) asks = refl
  by Turns asks = refl
  by (Withdraws lock) asks = refl
  by GivesBack asks = absurd cc
  by (Operates turn) asks = absurd cc

-- a marker is told with what it holds and requests
module _ (e : Exchange) (k : ℕ) (m : Marker) (conn : Conn) (there : slice_get e.markers k ≡ Some m) where
  told_at : (number : ℕ) (a : Attempt) → IsAt e k number a → is_finished (act a) ≡ false → under_way m ≡ Some (record { number = number; attempt = a })
  told_at number a at goes =
      let same : at.marker ≡ m = cc (there, at.there) in
      of_told m.work (record { number = number; attempt = a }) (record { is = sym (ap (λ (m : Marker). m.work) same) ∙ at.work; goes = goes })

  told_holds : IsIn conn (held_for (under_way m)) → Holds e k conn
  told_holds within = by (under_way m) refl within where
    by : (told : Option UnderWay) → under_way m ≡ told → IsIn conn (held_for told) → Holds e k conn
    by None told within = absurd within
    by (Some u) told within =
        record { number = u.number; attempt = u.attempt; at = record { marker = m; there = there; work = (told_of m.work u told).is }; held = within }

  holds_told : Holds e k conn → IsIn conn (held_for (under_way m))
  holds_told holds =
      subst (λ (told : Option UnderWay). IsIn conn (held_for told))
      (sym (told_at holds.number holds.attempt holds.at (holding conn holds.attempt holds.held))) holds.held

  told_requests : requested_for (under_way m) ≡ Some conn → HasRequested e k conn
  told_requests asks = by (under_way m) refl asks where
    by : (told : Option UnderWay) → under_way m ≡ told → requested_for told ≡ Some conn → HasRequested e k conn
    by None told asks = absurd cc
    by (Some u) told asks =
        record { number = u.number; attempt = u.attempt; at = record { marker = m; there = there; work = (told_of m.work u told).is }; request = asks }

  requests_told : HasRequested e k conn → requested_for (under_way m) ≡ Some conn
  requests_told asks =
      ap requested_for (told_at asks.number asks.attempt asks.at (requesting conn asks.attempt asks.request)) ∙ asks.request

-- the holder by a word
names : (holder k : ℕ) → holder ≡ k + 1 → actor_of_holder holder ≡ Some k
names holder k is = let more : holder ≡ suc k = omega (arith, is) in ap actor_of_holder more

named : (holder k : ℕ) → actor_of_holder holder ≡ Some k → holder ≡ k + 1
named zero k told = absurd cc
named (suc j) k told = let same : j ≡ k = cc in omega (arith, same)

module _ (plan : Tables) (e : Exchange) (lawful : IsLawfulExchange plan e) (k : ℕ) (m : Marker) (conn : Conn) (range : IsConn conn)
    (there : slice_get e.markers k ≡ Some m) where
  pub held_names : IsIn conn (held_for (under_way m)) ↔ (held_by preferring (conn_word e conn) ≡ Some k)
  held_names =
      let truth = tells_truth plan e lawful conn range in (
        λ within. names (conn_word e conn % 64) k ((truth.holder k).1 (told_holds e k m conn there within)),
        λ told. holds_told e k m conn there ((truth.holder k).0 (named (conn_word e conn % 64) k told)),
      )

  pub requests_name : k < 48 → (requested_for (under_way m) ≡ Some conn) ↔ (preferring.requests k (conn_word e conn) ≡ true)
  requests_name few =
      let truth = tells_truth plan e lawful conn range in (
        λ asks. eq-eqb (bit_at (conn_word e conn) (8 + k)) 1 (((truth.requests k few).1) (told_requests e k m conn there asks)),
        λ set. requests_told e k m conn there (((truth.requests k few).0) (eqb-true (bit_at (conn_word e conn) (8 + k)) 1 set)),
      )
