-- what every office of markers keeps: it is lawful, its attempts are valid, and there is room for
-- the records to come
use Rattle.std.proofs.Common.{◌≡◌, ◌≢◌, ℕ, zero, suc, ◌+◌, ◌<◌, ◌≤◌, ◌⊎◌, List, [], ◌∷◌, length, length-append, length-set, inl, inr, refl, sym, ◌∙◌, ap, subst}
use Rattle.std.proofs.Common.{arith, Option, Some, None, is_some, if◌then◌else◌, slice_get, slice_set, true, false}
use Rattle.std.proofs.lemmas.{List.length-map, Option.{none-some, same_Some, slice_get_within}}
use Rattle.turns.specs.Attempt.{act, act_in, begin_with, change, changed, closing_act, free_act, operated, restarted, restarted_in, turn_in, IsAnswerTo}
use Rattle.turns.specs.declared.{act.Act.TheVariants.{Finished, Request, Seize}, answer.Answer.{Answer, TheVariants.{Value, Done}}}
use Rattle.turns.specs.{declared.phase.Phase.TheVariants.{Requests, Seizes, Tests, Turns, Withdraws, GivesBack, Operates}, World.{Idle, Does, added_in, place}}
use Rattle.{turns.{specs.Runs.is_finished, proofs.{ExactWords.answers_fit, Lists.one_or_two}}, xbar_equip.specs.declared.conn.Conn.Conn}
use Rattle.{xbar_plan.specs.{Tables.Tables, Lawful.IsLawful}, xbar_office.specs.{Legal.IsJob, declared.{job.Job.Job, reply.Reply.Reply}}}
use Rattle.xbar_jobs.specs.{Attempt.{Attempt, Phase}, Jobs.first_conn, Office.office, Standing.IsValid, declared.effect.Effect.Effect}
use Rattle.{xbar_jobs.proofs.{AttemptStands.{stands_after, stands_again, stands_begun}, StepsMade.fits_asking}, xbar_moves.specs.AtWork.answer_to_step}
use Rattle.xbar_moves.specs.{Exchange.{Exchange, IsLawfulExchange, Marker, Work, fresh_exchange, turned}, Holding.IsAt, Moves.{added_record, refusal}}
use Rattle.xbar_moves.{specs.{Moves.{after_step, with_work, restarted_work}, declared.kinds.Kind.Kind}, proofs.{Actors.actor_at, Jobs.{assigned_is, past_turn}}}
use Rattle.xbar_moves.proofs.{Markers.{marker_else, marker_set}, Keeping.{KeepsRestarts, restarted_keeps}, StepCases.step_cases, Worlds.{added_at, answer_is}}
use Rattle.{xbar_moves.proofs.Worlds.{found_by, lawful_assigned, lawful_opened, lawful_stepped, restarted_lawful, taken}, xbar_core.specs.Standing.HasRoom}
use Rattle.xbar_core.{specs.Standing.{HoldsFew, IsExchange, StandsAt, waiting, waits, waits_in}, proofs.WaitingMarkers.{waiting_most, waiting_set, waits_most}}
use Rattle.turns.specs.Attempt as generic
use Rattle.turns.specs.World as worlds

module _ (plan : Tables) where
  abbrev pub AreStanding : List Marker → Type 0
  AreStanding markers = (k : ℕ) (m : Marker) → slice_get markers k ≡ Some m → StandsAt plan m.work

  -- a valid attempt holds few connectors
  pub few_held : (work : Work) → StandsAt plan work → HoldsFew work
  few_held Idle valid = tt
  few_held (Does n a) valid = valid.few

  -- with one marker set to a valid attempt, all are valid
  pub stands_set : (markers : List Marker) (k : ℕ) (m was : Marker) → slice_get markers k ≡ Some was → StandsAt plan m.work → AreStanding markers
      → AreStanding (slice_set markers k m)
  stands_set markers k m was there valid all j other at = by (one_or_two j k) where
    by : (j ≡ k) ⊎ (j ≢ k) → StandsAt plan other.work
    by (inl one) =
        let same : m ≡ other = same_Some m other (sym (marker_set markers k m was there) ∙ ap (slice_get (slice_set markers k m)) (sym one) ∙ at) in
        subst (λ (o : Marker). StandsAt plan o.work) same valid
    by (inr two) = all j other (sym (marker_else markers k j m two) ∙ at)

  -- the job of a lawful office's marker is one
  job_there : (e : Exchange) (k n : ℕ) (a : Attempt) → IsLawfulExchange plan e → IsAt e k n a → IsJob a.job
  job_there e k n a law at = (law.sound k n a (actor_at e k n a at)).job

  -- the answer to its next step is of that step's kind
  told_fits : (e : Exchange) (k : ℕ) (a : Attempt) → IsLawfulExchange plan e → is_finished (act a) ≡ false →
      IsAnswerTo (act a) (answer_to_step k e.words a)
  told_fits e k a law goes =
      let acts : act a ≢ Finished = λ rests. let two : true ≡ false = ap is_finished (sym rests) ∙ goes in cc in
      subst (λ (answer : Answer). IsAnswerTo (act a) answer) (sym (answer_is plan k e.words a))
      (fits_asking plan (act a) _ (answers_fit (office plan) k (act a) (found_by plan e.words a) acts (law.are_words (place (office plan) (act a)))))

  pub stands_there : (e : Exchange) (k n : ℕ) (a : Attempt) → IsExchange plan e → IsAt e k n a → IsValid plan a
  stands_there e k n a was at = subst (StandsAt plan) at.work (was.valid k at.marker at.there)

  operated_waits : (a : Attempt) (turn : ℕ) (effects : List Effect) → a.phase ≡ Operates turn → waits_in (operated a effects).phase ≤ 0
  operated_waits a turn [] at = subst (λ (phase : Phase). waits_in phase ≤ 0) (sym at) (omega arith)
  operated_waits a turn (effect ∷ effects) at = subst (λ (phase : Phase). waits_in phase ≤ 0) (sym at) (omega arith)

  closed_waits : (k found turn : ℕ) (a : Attempt) (effects : List Effect) (held : List Conn) → a.phase ≡ Operates turn
      → waits_in (changed (office plan) a (Operates turn) (generic.answer_to (office plan) k (closing_act effects held) found)).phase ≤ 0
  closed_waits k found turn a [] [] at = operated_waits a turn a.effects at
  closed_waits k found turn a [] (conn ∷ held) at = operated_waits a turn a.effects at
  closed_waits k found turn a (effect ∷ effects) held at = operated_waits a turn a.effects at

  few_recorded : (k n found : ℕ) (job : Job) (reply : Option Reply) → length (worlds.turn_record (office plan) k n job reply found) ≤ 1
  few_recorded k n found job None = omega arith
  few_recorded k n found job (Some reply) = omega arith

  -- with a turn there is one record more, and one turn less to come
  fewer_in : (k n found : ℕ) (a : Attempt) (phase : Phase) → a.phase ≡ phase
      → waits_in (changed (office plan) a phase (generic.answer_to (office plan) k (act_in phase a) found)).phase
      + length (added_in (office plan) k n a phase found) ≤ waits_in phase
  fewer_in k n found a (Requests conn) at = let most =
      waits_most (changed (office plan) a (Requests conn) (generic.answer_to (office plan) k (Request conn) found)).phase in omega (arith, most)
  fewer_in k n found a (Seizes conn expected) at = let most =
      waits_most (changed (office plan) a (Seizes conn expected) (generic.answer_to (office plan) k (Seize conn expected) found)).phase in omega (arith, most)
  fewer_in k n found a (Tests word) at = let most = waits_most (changed (office plan) a (Tests word) (Value found)).phase in omega (arith, most)
  fewer_in k n found a Turns at = let few = few_recorded k n found a.job a.reply in omega (arith, few)
  fewer_in k n found a (Withdraws conn) at = let most = waits_most (changed (office plan) a (Withdraws conn) Done).phase in omega (arith, most)
  fewer_in k n found a GivesBack at = let most =
      waits_most (changed (office plan) a GivesBack (generic.answer_to (office plan) k (free_act a.held) found)).phase in omega (arith, most)
  fewer_in k n found a (Operates turn) at = let none = closed_waits k found turn a a.effects a.held at in omega (arith, none)

  pub fewer : (k n : ℕ) (words : List ℕ) (a : Attempt)
      → waits_in (change (office plan) a (answer_to_step k words a)).phase + length (added_record k n a (answer_to_step k words a)) ≤ waits_in a.phase
  fewer k n words a =
      let found : ℕ = found_by plan words a in
      let one = fewer_in k n found a a.phase refl in
      let size : length (added_record k n a (generic.answer_to (office plan) k (act a) found)) ≡ length (added_in (office plan) k n a a.phase found) =
      sym (length-map (added_record k n a (generic.answer_to (office plan) k (act a) found)) turned)
      ∙ ap (length {A = worlds.Record Job Reply}) (added_at plan k n found a a.phase) in
      subst (λ (answer : Answer). waits_in (change (office plan) a answer).phase + length (added_record k n a answer) ≤ waits_in a.phase)
      (sym (answer_is plan k words a)) (omega (arith, one, size))

  module _ (laws : IsLawful plan) where
    -- a step keeps it
    pub kept_stepped : (e : Exchange) (k : ℕ) → IsExchange plan e → IsExchange plan (after_step plan k e)
    kept_stepped e k was = record { lawful = lawful_stepped plan e k laws was.lawful; valid = valid } where
      valid : AreStanding (after_step plan k e).markers
      valid = elim (step_cases plan e k) [
        | inl same ↦ subst (λ (x : Exchange). AreStanding x.markers) (sym same) was.valid
        | inr made ↦
            let a = made.attempt in
            subst (λ (x : Exchange). AreStanding x.markers) (sym made.is)
            (stands_set e.markers k _ made.at.marker made.at.there
            (stands_after plan a (answer_to_step k e.words a) laws (job_there e k made.number a was.lawful made.at) (told_fits e k a was.lawful made.goes)
            (stands_there e k made.number a was made.at)) was.valid)
      ]

    -- so does a marker that is to give back, and begins its job anew
    pub kept_restarted : (k : ℕ) → KeepsRestarts plan (IsExchange plan) k
    kept_restarted k e n a was at = record {
      lawful = restarted_lawful plan laws k e n a was.lawful at;
      valid = stands_set e.markers k _ at.marker at.there (stands_again plan a laws (job_there e k n a was.lawful at) (stands_there e k n a was at)) was.valid;
    }

    -- and a job that is assigned
    pub kept_assigned : (e : Exchange) (k n : ℕ) (m : Marker) (job : Job) → IsExchange plan e → IsJob job → slice_get e.markers k ≡ Some m
        → refusal e k job ≡ None → IsExchange plan (with_work k m (Does n (begin_with (first_conn job) job)) e)
    kept_assigned e k n m job was in_range there free = record {
      lawful = subst (IsLawfulExchange plan) (assigned_is e k m there n job) (lawful_assigned plan e k n job laws was.lawful in_range free);
      valid = stands_set e.markers k _ m there (stands_begun plan job laws in_range) was.valid;
    }

  -- a step leaves room for the records to come
  pub room_stepped : (e : Exchange) (k room : ℕ) → HasRoom e room → HasRoom (after_step plan k e) room
  room_stepped e k room fits = elim (step_cases plan e k) [
    | inl same ↦ subst (λ (x : Exchange). HasRoom x room) (sym same) fits
    | inr made ↦
        let a = made.attempt in
        let after = change (office plan) a (answer_to_step k e.words a) in
        let size = length-append e.records (added_record k made.number a (answer_to_step k e.words a)) in
        let one = waiting_set e.markers k (record made.at.marker { work = Does made.number after }) made.at.marker made.at.there in
        let was = ap waits made.at.work in
        let less = fewer k made.number e.words a in
        subst (λ (x : Exchange). HasRoom x room) (sym made.is) (omega (arith, size, one, was, less))
  ]

  -- and so does a marker that begins its job anew
  restarted_job : (a : Attempt) (turned : Option ℕ) → turn_in a.phase ≡ turned → waits_in (restarted (office plan) a).phase ≤ waits_in a.phase
  restarted_job a None is =
      let most = waits_most (restarted (office plan) a).phase in
      let one : waits_in a.phase ≡ 1 = ap (λ (turned : Option ℕ). if is_some turned then 0 else 1) is in
      omega (arith, most, one)
  restarted_job a (Some turn) is = let same = ap (λ (phase : Phase). waits_in (restarted_in (office plan) phase a).phase) (past_turn a.phase turn is) in
      omega (arith, same)

  restarted_waits : (work : Work) → waits (restarted_work plan work) ≤ waits work
  restarted_waits Idle = omega arith
  restarted_waits (Does n a) = restarted_job a (turn_in a.phase) refl

  pub room_anew : (e : Exchange) (k room : ℕ) (m : Marker) → slice_get e.markers k ≡ Some m → HasRoom e room
      → HasRoom (with_work k m (restarted_work plan m.work) e) room
  room_anew e k room m there fits =
      let one = waiting_set e.markers k (record m { work = restarted_work plan m.work }) m there in
      let less = restarted_waits m.work in
      omega (arith, one, less)

  pub kept_anew : (e : Exchange) (k : ℕ) (m : Marker) → IsLawful plan → IsExchange plan e → slice_get e.markers k ≡ Some m
      → IsExchange plan (with_work k m (restarted_work plan m.work) e)
  kept_anew e k m laws was there = restarted_keeps plan (IsExchange plan) k (kept_restarted laws k) e m was there

  -- an office opens so
  idle_opened : (kinds : List Kind) (k : ℕ) (m : Marker) → slice_get (fresh_exchange kinds).markers k ≡ Some m → m.work ≡ Idle
  idle_opened [] k m there = absurd (none-some m there)
  idle_opened (kind ∷ kinds) zero m there = ap (λ (o : Marker). o.work) (sym (same_Some (record { kind = kind; work = Idle }) m there))
  idle_opened (kind ∷ kinds) (suc k) m there = idle_opened kinds k m there

  pub kept_opened : (kinds : List Kind) → IsLawful plan → length kinds ≤ 48 → IsExchange plan (fresh_exchange kinds)
  kept_opened kinds laws few = record {
    lawful = lawful_opened plan kinds laws few;
    valid = λ k m there. subst (StandsAt plan) (sym (idle_opened kinds k m there)) tt;
  }

-- nobody waits for a turn in an office that opens
pub none_waits : (kinds : List Kind) → waiting (fresh_exchange kinds).markers ≡ 0
unfolding waiting
none_waits [] = refl
none_waits (kind ∷ kinds) = let none = none_waits kinds in omega (arith, none)

-- with room for one more record for each marker there is room for a job that is assigned
pub room_assigned : (e : Exchange) (k room : ℕ) (m : Marker) (work : Work) → length e.records + length e.markers ≤ room → HasRoom (with_work k m work e) room
room_assigned e k room m work fits =
    let most = waiting_most (slice_set e.markers k (record m { work = work })) in
    let size = length-set e.markers k (record m { work = work }) in
    omega (arith, most, size)

-- a job that is not refused goes to a marker that is there
pub within_if_taken : (e : Exchange) (k : ℕ) (job : Job) → refusal e k job ≡ None → k < length e.markers
within_if_taken e k job free = let to = taken e k job free in slice_get_within e.markers k to.marker to.there
