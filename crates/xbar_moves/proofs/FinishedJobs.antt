-- a job that finishes has its record at the place of its turn
use Rattle.std.proofs.Common.{◌≡◌, ℕ, ◌^◌, ◌<◌, Bool, true, false, List, [], ◌∷◌, length, map, refl, sym, ◌∙◌, ap, subst, Option, Some, None, option_map}
use Rattle.std.proofs.Common.{slice_get, unwrap_or}
use Rattle.std.proofs.lemmas.Option.{same_Some, slice_get-map}
use Rattle.turns.specs.{Attempt.{act, change, changed, giving_back, operated, rest_of, turn_in}, Law.{FitsIn, IsRecorded}, Runs.is_finished}
use Rattle.turns.specs.declared.answer.Answer.{Answer, TheVariants.{Asked, Seized, Held, Preferred, Again, Value, Turn, Done}}
use Rattle.turns.{specs.declared.phase.Phase.TheVariants.{Requests, Seizes, Tests, Turns, Withdraws, GivesBack, Operates}, proofs.Orders.get_before}
use Rattle.{xbar_equip.specs.declared.conn.Conn.Conn, xbar_plan.specs.Tables.Tables, xbar_office.specs.declared.{job.Job.Job, reply.Record.Record}}
use Rattle.{xbar_office.{specs.declared.reply.Reply.Reply, proofs.AuditedRecords.turn_at}, xbar_jobs.specs.{Attempt.{Attempt, Phase}, Office.office}}
use Rattle.{xbar_jobs.specs.declared.effect.Effect.Effect, xbar_moves.specs.{AtWork.answer_to_step, Exchange.{Exchange, IsLawfulExchange, turned, world}}}
use Rattle.xbar_moves.specs.{Holding.IsAt, Moves.{event_at_step, event_of, finished, moved_on, record_of, refused_by, after_step}}
use Rattle.xbar_moves.proofs.{Actors.actor_at, Records.records_legal, Jobs.{one_job, past_turn}, Steps.{HasCome, has_come, step_adds}}
use Rattle.turns.specs.World as worlds
use Rattle.xbar_moves.specs.declared.event.Event.TheVariants as event

-- an attempt past its turn has come to this record
record HasFinished (k number : ℕ) (after : Attempt) (r : Record) : Type 0 where
  pub turn : ℕ
  pub phase : after.phase ≡ Operates turn
  pub reply : after.reply ≡ Some r.reply
  pub turn_is : r.turn ≡ turn
  pub marker : r.marker ≡ k
  pub number_is : r.job_no ≡ number
  pub job : r.job ≡ after.job

module _ (k number : ℕ) (after : Attempt) (r : Record) where
  by_reply : (turn : ℕ) (reply : Option Reply) → after.phase ≡ Operates turn → after.reply ≡ reply
      → finished (record_of turn k number (record after { reply = reply })) ≡ event.Finished r → HasFinished k number after r
  by_reply turn None at replied e = absurd cc
  by_reply turn (Some reply) at replied e = record { turn = turn; phase = at; reply = cc; turn_is = cc; marker = cc; number_is = cc; job = cc }

  by_turn : (turned : Option ℕ) → turn_in after.phase ≡ turned
      → finished (unwrap_or (option_map (λ turn. record_of turn k number after) turned) []) ≡ event.Finished r → HasFinished k number after r
  by_turn None at e = absurd cc
  by_turn (Some turn) at e = by_reply turn after.reply (past_turn after.phase turn at) refl e

  by_rest : (rest : Bool) → moved_on k number after rest ≡ event.Finished r → HasFinished k number after r
  by_rest true e = by_turn (turn_in after.phase) refl e
  by_rest false e = absurd cc

  by_refusal : (holder : ℕ) (conn : Option Conn) → refused_by holder conn ≡ event.Finished r → ⊥
  by_refusal holder None e = cc
  by_refusal holder (Some conn) e = cc

  -- a step finishes a job only if its answer is Done
  record IsLast (answer : Answer) : Type 0 where
    pub told : answer ≡ Done
    pub finished : HasFinished k number after r

  by_answer : (a : Attempt) (answer : Answer) → event_of k number a after answer ≡ event.Finished r → IsLast answer
  by_answer a (Held holder) e = absurd (by_refusal holder _ e)
  by_answer a (Preferred other) e = absurd cc
  by_answer a (Asked word) e = absurd cc
  by_answer a Seized e = absurd cc
  by_answer a (Again word) e = absurd cc
  by_answer a (Value value) e = absurd cc
  by_answer a (Turn turn) e = absurd cc
  by_answer a Done e = record { told = refl; finished = by_rest (is_finished (act after)) e }

-- the attempt after a step with the answer Done is of the same job; past its turn it was so
-- before, with the same reply
record IsAfter (a after : Attempt) : Type 0 where
  pub job : after.job ≡ a.job
  pub past : (turn : ℕ) → after.phase ≡ Operates turn → (a.phase ≡ Operates turn) × (after.reply ≡ a.reply)

is_itself : (a : Attempt) → IsAfter a a
is_itself a = record { job = refl; past = λ turn at. (at, refl) }

module _ (plan : Tables) where
  is_freed : (a : Attempt) (held : List Conn) → IsAfter a (giving_back (office plan) a held)
  is_freed a [] = record { job = refl; past = λ turn at. absurd cc }
  is_freed a (conn ∷ held) = record { job = refl; past = λ turn at. absurd cc }

  is_operated : (a : Attempt) (effects : List Effect) → IsAfter a (operated a effects)
  is_operated a [] = record { job = refl; past = λ turn at. (at, refl) }
  is_operated a (effect ∷ effects) = record { job = refl; past = λ turn at. (at, refl) }

  is_changed : (a : Attempt) (phase : Phase) → IsAfter a (changed (office plan) a phase Done)
  is_changed a (Requests conn) = is_itself a
  is_changed a (Seizes conn expected) = is_itself a
  is_changed a (Tests word) = is_itself a
  is_changed a Turns = is_itself a
  is_changed a (Withdraws conn) = is_freed a a.held
  is_changed a GivesBack = is_freed a (rest_of a.held)
  is_changed a (Operates turn) = is_operated a a.effects

  -- an attempt whose step finishes its job is past its turn
  at_end : (k number : ℕ) (words : List ℕ) (a : Attempt) (r : Record)
      → event_of k number a (change (office plan) a (answer_to_step k words a)) (answer_to_step k words a) ≡ event.Finished r → HasFinished k number a r
  at_end k number words a r e =
      let last = by_answer k number (change (office plan) a (answer_to_step k words a)) r a (answer_to_step k words a) e in
      let is : IsAfter a (change (office plan) a (answer_to_step k words a)) =
      subst (λ (answer : Answer). IsAfter a (change (office plan) a answer)) (sym last.told) (is_changed a a.phase) in
      let ended = last.finished in
      let before = is.past ended.turn ended.phase in
      record {
        turn = ended.turn;
        phase = before.0;
        reply = sym before.1 ∙ ended.reply;
        turn_is = ended.turn_is;
        marker = ended.marker;
        number_is = ended.number_is;
        job = ended.job ∙ is.job;
      }

  -- what a marker finishes is the job of its number, under its own
  pub finishes : (e : Exchange) (k number : ℕ) (a : Attempt) (r : Record) → IsAt e k number a → event_at_step plan k e ≡ event.Finished r
      → (r.marker ≡ k) × (r.job_no ≡ number) × (r.job ≡ a.job)
  finishes e k number a r at ends =
      let come = has_come plan e k (event.Finished r) (λ same. cc) ends in
      let ended = at_end k come.number e.words come.attempt r come.comes in
      let one = one_job e k come.number number come.attempt a come.at at in
      (ended.marker, ended.number_is ∙ one.0, ended.job ∙ ap (λ (b : Attempt). b.job) one.1)

-- the record at this place is that of a turn
pub record IsTurn (records : List Record) (place : ℕ) (now : worlds.Record Job Reply) : Type 0 where
  pub found : Record
  pub there : slice_get records place ≡ Some found
  pub turn : turned found ≡ now

-- at the place of a turn is its record
pub turn_there : (records : List Record) (place : ℕ) (now : worlds.Record Job Reply) (at : Option Record) → slice_get records place ≡ at
    → option_map turned at ≡ Some now → IsTurn records place now
turn_there records place now None there is = absurd cc
turn_there records place now (Some found) there is = record { found = found; there = there; turn = cc }

-- records that say the same are one
same_record : (one other : Record) → one.turn ≡ other.turn → one.marker ≡ other.marker → one.job_no ≡ other.job_no → one.job ≡ other.job
    → one.reply ≡ other.reply → one ≡ other
same_record one other turn marker number job reply =
    let this : one ≡ record { turn = one.turn; marker = one.marker; job_no = one.job_no; job = one.job; reply = one.reply } = refl in
    let that : other ≡ record { turn = other.turn; marker = other.marker; job_no = other.job_no; job = other.job; reply = other.reply } = refl in
    cc

module _ (plan : Tables) (order : List (worlds.Record Job Reply)) (k number : ℕ) (a : Attempt) (r : Record) (ended : HasFinished k number a r)
    (known : IsRecorded (office plan) order k number ended.turn a) where
  -- what the marker's turn has recorded is what it has come to
  is_recorded : (found : Record) → turned found ≡ known.recorded → found ≡ r
  is_recorded found is =
      let reply : Some known.recorded.reply ≡ Some r.reply = sym known.reply ∙ ended.reply in
      same_record found r
      (ap (λ (t : worlds.Record Job Reply). t.turn) is ∙ known.turn_is ∙ sym ended.turn_is)
      (ap (λ (t : worlds.Record Job Reply). t.actor) is ∙ known.actor ∙ sym ended.marker)
      (ap (λ (t : worlds.Record Job Reply). t.number) is ∙ known.number_is ∙ sym ended.number_is)
      (ap (λ (t : worlds.Record Job Reply). t.job) is ∙ known.job ∙ sym ended.job)
      (ap (λ (t : worlds.Record Job Reply). t.reply) is ∙ same_Some _ _ reply)

module _ (plan : Tables) (e : Exchange) (k : ℕ) (r : Record) (lawful : IsLawfulExchange plan e) where
  -- what has finished is recorded
  finished_there : (number : ℕ) (a : Attempt) → IsAt e k number a → HasFinished k number a r → (place : ℕ) × (slice_get e.records place ≡ Some r)
  finished_there number a at ended =
      let sound = lawful.sound k number a (actor_at e k number a at) in
      let known = (subst (FitsIn (office plan) (world plan e) k number a) ended.phase sound.fits).recorded in
      let found =
      turn_there e.records known.place known.recorded (slice_get e.records known.place) refl
      (sym (slice_get-map turned e.records known.place) ∙ known.at_place) in
      (known.place, found.there ∙ ap Some (is_recorded plan (map turned e.records) k number a r ended known found.found found.turn))

  finished_by : length e.records < 2 ^ 64 → HasCome plan e k (event.Finished r) → slice_get (after_step plan k e).records r.turn ≡ Some r
  finished_by few come =
      let recorded = finished_there come.number come.attempt come.at (at_end plan k come.number e.words come.attempt r come.comes) in
      let place = turn_at e.records recorded.0 r (records_legal plan e lawful few).turns recorded.1 in
      let there : slice_get e.records r.turn ≡ Some r = ap (slice_get e.records) place ∙ recorded.1 in
      ap (λ (records : List Record). slice_get records r.turn) (step_adds plan e k come.number come.attempt come.at) ∙ get_before e.records _ r.turn r there

  -- a job that finishes has its record at the place of its turn
  pub finished_at : length e.records < 2 ^ 64 → event_at_step plan k e ≡ event.Finished r → slice_get (after_step plan k e).records r.turn ≡ Some r
  finished_at few ends = finished_by few (has_come plan e k (event.Finished r) (λ same. cc) ends)
