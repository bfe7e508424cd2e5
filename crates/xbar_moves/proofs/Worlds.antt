-- the moves of an office are moves of its world, so each of them is lawful
use Rattle.std.proofs.Common.{◌≡◌, ℕ, ◌≤◌, Bool, true, false, List, [], ◌∷◌, ◌++◌, length, map, replicate, slice_index, inl, inr, refl, sym, ◌∙◌, ap, subst}
use Rattle.std.proofs.Common.{Option, Some, None, ◌==◌, if◌then◌else◌, slice_get, slice_set}
use Rattle.turns.specs.{Attempt.{act, act_in, change, closing_act, free_act, unless_denied as told_by}, Law.{IsAvailable, Lawful}}
use Rattle.turns.specs.{World.{Idle, Does, added_in, becomes, moved, place, with_actor}, declared.answer.Answer.{Answer, TheVariants.{Asked, Seized, Again}}}
use Rattle.turns.specs.declared.{judgement.Judgement.Judgement, phase.Phase.TheVariants.{Requests, Seizes, Tests, Turns, Withdraws, GivesBack, Operates}}
use Rattle.{turns.proofs.{Moving.{assigns, gives_back, keeps, opens}, Runs.rest_is}, xbar_equip.specs.{Word.word_count, declared.conn.Conn.Conn}}
use Rattle.{xbar_plan.specs.{Tables.Tables, Lawful.IsLawful}, xbar_office.specs.{Legal.IsJob, declared.{job.Job.Job, reply.{Record.Record, Reply.Reply}}}}
use Rattle.xbar_jobs.specs.{Attempt.{Attempt, Phase, next_step}, Office.office, OnWords.{answer_of, words_after}, declared.effect.Effect.Effect}
use Rattle.xbar_jobs.proofs.{OfficeSystem.office_is, PastTurn.{answer_led, words_led}}
use Rattle.xbar_moves.specs.{Exchange.{Exchange, IsLawfulExchange, Marker, Work, is_idle, fresh_exchange, turned, world}, Kinds.takes}
use Rattle.xbar_moves.specs.Moves.{after_answer, assigned, restarted_at, given_back, record_of, added_record, refusal, refusal_of, after_step, with_work}
use Rattle.xbar_moves.specs.{Settling.settled, declared.kinds.{AssignFault.{AssignFault, TheVariants.{NoMarker, NotIdle, WrongKind}}, Kind.Kind}}
use Rattle.xbar_moves.proofs.{Actors.actor_at, Jobs.{assigned_is, at_marker_has}, Markers.{actor_there, works, works_set}, StepCases.step_cases}
use Rattle.xbar_moves.proofs.Keeping.{KeepsRestarts, back_keeps, restarts_keep, settled_keeps}
use Rattle.turns.specs.Attempt as generic
use Rattle.turns.specs.World as worlds
use Rattle.turns.specs.declared.judgement.Judgement.TheVariants as judgement

turned_more : (records more : List Record) → map turned (records ++ more) ≡ map turned records ++ map turned more
turned_more [] more = refl
turned_more (r ∷ records) more = ap (λ (all : List (worlds.Record Job Reply)). turned r ∷ all) (turned_more records more)

-- a judged request or seizing adds no record
adds_asked : (k n word : ℕ) (a : Attempt) (j : Judgement) → added_record k n a (told_by (Asked word) j) ≡ []
adds_asked k n word a judgement.Free = refl
adds_asked k n word a (judgement.Held holder) = refl
adds_asked k n word a (judgement.Preferred other) = refl

adds_seized : (k n word : ℕ) (a : Attempt) (b : Bool) (j : Judgement) → added_record k n a (if b then Seized else told_by (Again word) j) ≡ []
adds_seized k n word a true j = refl
adds_seized k n word a false judgement.Free = refl
adds_seized k n word a false (judgement.Held holder) = refl
adds_seized k n word a false (judgement.Preferred other) = refl

module _ (plan : Tables) where
  adds_freed : (k n found : ℕ) (a : Attempt) (held : List Conn) → added_record k n a (generic.answer_to (office plan) k (free_act held) found) ≡ []
  adds_freed k n found a [] = refl
  adds_freed k n found a (conn ∷ held) = refl

  adds_closed : (k n found : ℕ) (a : Attempt) (effects : List Effect) (held : List Conn)
      → added_record k n a (generic.answer_to (office plan) k (closing_act effects held) found) ≡ []
  adds_closed k n found a [] held = adds_freed k n found a held
  adds_closed k n found a (effect ∷ effects) held = refl

  of_reply : (k n found : ℕ) (a : Attempt) (reply : Option Reply)
      → map turned (record_of found k n (record a { reply = reply })) ≡ worlds.turn_record (office plan) k n a.job reply found
  of_reply k n found a None = refl
  of_reply k n found a (Some reply) = refl

  -- a step adds the record that it adds in the world
  pub added_at : (k n found : ℕ) (a : Attempt) (phase : Phase)
      → map turned (added_record k n a (generic.answer_to (office plan) k (act_in phase a) found)) ≡ added_in (office plan) k n a phase found
  added_at k n found a (Requests conn) = ap (map turned) (adds_asked k n _ a _)
  added_at k n found a (Seizes conn expected) = ap (map turned) (adds_seized k n found a (found == expected) _)
  added_at k n found a (Tests word) = refl
  added_at k n found a Turns = of_reply k n found a a.reply
  added_at k n found a (Withdraws conn) = refl
  added_at k n found a GivesBack = ap (map turned) (adds_freed k n found a a.held)
  added_at k n found a (Operates turn) = ap (map turned) (adds_closed k n found a a.effects a.held)

  -- what a step finds on its word
  abbrev pub found_by : List ℕ → Attempt → ℕ
  found_by words a = slice_index words (place (office plan) (act a))

  pub answer_is : (k : ℕ) (words : List ℕ) (a : Attempt) → answer_of k (next_step a) words ≡ generic.answer_to (office plan) k (act a) (found_by words a)
  answer_is k words a = answer_led plan k a words

  pub words_are : (k : ℕ) (words : List ℕ) (a : Attempt)
      → words_after k (next_step a) words ≡ slice_set words (place (office plan) (act a)) (becomes (office plan) k (act a) (found_by words a))
  words_are k words a = words_led plan k a words

  -- marker k's step is actor k's
  pub moved_is : (e : Exchange) (k n : ℕ) (m : Marker) (a : Attempt)
      → moved (office plan) k n a (world plan e) ≡ world plan (after_answer plan k m n a (answer_of k (next_step a) e.words) e)
  moved_is e k n m a =
      let found : ℕ = found_by e.words a in
      let told_now : Answer = generic.answer_to (office plan) k (act a) found in
      let order =
      turned_more e.records (added_record k n a told_now)
      ∙ ap (λ (more : List (worlds.Record Job Reply)). map turned e.records ++ more) (added_at k n found a a.phase) in
      ap (λ (words : List ℕ).
      record {
        words = words;
        actors = slice_set (works e.markers) k (Does n (change (office plan) a told_now));
        order = map turned e.records ++ added_in (office plan) k n a a.phase found;
      }) (sym (words_are k e.words a))
      ∙ ap (λ (actors : List Work).
      record { words = words_after k (next_step a) e.words; actors = actors; order = map turned e.records ++ added_in (office plan) k n a a.phase found })
      (sym (works_set e.markers k (record m { work = Does n (change (office plan) a told_now) })))
      ∙ ap (λ (all : List (worlds.Record Job Reply)).
      record {
        words = words_after k (next_step a) e.words;
        actors = works (slice_set e.markers k (record m { work = Does n (change (office plan) a told_now) }));
        order = all;
      }) (sym order)
      ∙ ap (λ (answer : Answer). world plan (after_answer plan k m n a answer e)) (sym (answer_is k e.words a))

-- all are idle in an office that opens
works_opened : (kinds : List Kind) → works (fresh_exchange kinds).markers ≡ replicate (length kinds) Idle
works_opened [] = refl
works_opened (kind ∷ kinds) = ap (λ (all : List Work). Idle ∷ all) (works_opened kinds)

-- a marker that is idle is free for a job
pub idle_free : (plan : Tables) (work : Work) → is_idle work ≡ true → IsAvailable (office plan) work
idle_free plan Idle e = tt
idle_free plan (Does number a) e = rest_is (act a) e

-- a job that is not refused goes to a marker that is there and idle
pub record IsTaken (e : Exchange) (k : ℕ) : Type 0 where
  pub marker : Marker
  pub there : slice_get e.markers k ≡ Some marker
  pub idle : is_idle marker.work ≡ true

pub taken : (e : Exchange) (k : ℕ) (job : Job) → refusal e k job ≡ None → IsTaken e k
taken e k job =
    at_marker_has Takes (Some NoMarker) (λ m. refusal_of m job) (slice_get e.markers k) (λ free. absurd cc) (λ m there. by m there (is_idle m.work) refl) where
      Takes : Option AssignFault → Type 0
      Takes why = why ≡ None → IsTaken e k

      by : (m : Marker) → slice_get e.markers k ≡ Some m → (idle : Bool) → is_idle m.work ≡ idle
          → Takes (if idle then (if takes m.kind job then None else Some WrongKind) else Some NotIdle)
      by m there true is free = record { marker = m; there = there; idle = is }
      by m there false is free = absurd cc

-- an office with a marker set is lawful if its world is
set_lawful : (plan : Tables) (e : Exchange) (k : ℕ) (m : Marker) (work : Work) → Lawful (office plan) (with_actor (office plan) k work (world plan e))
    → IsLawfulExchange plan (with_work k m work e)
set_lawful plan e k m work law =
    subst (λ (actors : List Work). Lawful (office plan) (record { words = e.words; actors = actors; order = map turned e.records }))
    (sym (works_set e.markers k (record m { work = work }))) law

-- an attempt that begins anew
pub restarted_lawful : (plan : Tables) → IsLawful plan → (k : ℕ) → KeepsRestarts plan (IsLawfulExchange plan) k
restarted_lawful plan laws k e n a law at =
    set_lawful plan e k at.marker _ (gives_back (office plan) (office_is plan laws) (world plan e) law k n a (actor_at e k n a at))

-- an office opens lawfully
pub lawful_opened : (plan : Tables) (kinds : List Kind) → IsLawful plan → length kinds ≤ 48 → IsLawfulExchange plan (fresh_exchange kinds)
lawful_opened plan kinds laws few =
    subst (λ (actors : List Work). Lawful (office plan) (record { words = replicate word_count 0; actors = actors; order = [] })) (sym (works_opened kinds))
    (opens (office plan) (office_is plan laws) (length kinds) few)

-- a job that is not refused keeps the office lawful
pub lawful_assigned : (plan : Tables) (e : Exchange) (k number : ℕ) (job : Job) → IsLawful plan → IsLawfulExchange plan e → IsJob job → refusal e k job ≡ None
    → IsLawfulExchange plan (assigned k number job e)
lawful_assigned plan e k number job laws law in_range free =
    let to = taken e k job free in
    let goes =
    assigns (office plan) (office_is plan laws) (world plan e) law k number to.marker.work job (actor_there e.markers k to.marker to.there)
    (idle_free plan to.marker.work to.idle) in_range in
    subst (IsLawfulExchange plan) (sym (assigned_is e k to.marker to.there number job)) (set_lawful plan e k to.marker _ goes)

-- so does a step of a marker
pub lawful_stepped : (plan : Tables) (e : Exchange) (k : ℕ) → IsLawful plan → IsLawfulExchange plan e → IsLawfulExchange plan (after_step plan k e)
lawful_stepped plan e k laws law = elim (step_cases plan e k) [
  | inl same ↦ subst (IsLawfulExchange plan) (sym same) law
  | inr words_after ↦
      subst (IsLawfulExchange plan) (sym words_after.is)
      (subst (Lawful (office plan)) (moved_is plan e k words_after.number words_after.at.marker words_after.attempt)
      (keeps (office plan) (office_is plan laws) (world plan e) law k words_after.number words_after.attempt
      (actor_at e k words_after.number words_after.attempt words_after.at)))
]

-- so does a marker that is to begin its job anew
pub lawful_restarted : (plan : Tables) (e : Exchange) (k : ℕ) → IsLawful plan → IsLawfulExchange plan e → IsLawfulExchange plan (restarted_at plan k e)
lawful_restarted plan e k laws law = restarts_keep plan (IsLawfulExchange plan) k (restarted_lawful plan laws k) e law

-- so does a marker that gives back
pub lawful_given_back : (plan : Tables) (e : Exchange) (k : ℕ) → IsLawful plan → IsLawfulExchange plan e → IsLawfulExchange plan (given_back plan k e)
lawful_given_back plan e k laws law = back_keeps plan (IsLawfulExchange plan) k (λ x is. lawful_stepped plan x k laws is) (restarted_lawful plan laws k) e law

-- and so does an office that settles
pub lawful_settled : (plan : Tables) (e : Exchange) → IsLawful plan → IsLawfulExchange plan e → IsLawfulExchange plan (settled plan e)
lawful_settled plan e laws law = settled_keeps plan (IsLawfulExchange plan) (λ k x is. lawful_stepped plan x k laws is) (restarted_lawful plan laws) e law
