-- what a marker tests or changes is under what it holds, whatever the plan
use Rattle.std.proofs.Common.{◌≡◌, ℕ, List, [], ◌∷◌, map, slice_index, inl, inr, refl, sym, ◌∙◌, ap, subst, arith, Some, slice_get}
use Rattle.std.proofs.lemmas.Option.{slice_get-map}
use Rattle.turns.specs.{Among.IsIn, Attempt.{act, act_in, closing_act, free_act}, Law.{FitsIn, IsOperating, IsRecorded}, System.{AreUnder, IsUnder}}
use Rattle.turns.specs.{World.place, declared.phase.Phase.TheVariants.{Requests, Seizes, Tests, Turns, Withdraws, GivesBack, Operates}}
use Rattle.{turns.proofs.Lists.index_other, xbar_equip.{specs.{Word.{ConnWord, protector, word_number}, declared.conn.Conn.Conn}, proofs.WordNumbers.distinct}}
use Rattle.{xbar_plan.specs.Tables.Tables, xbar_office.specs.{Legal.after, declared.{job.Job.Job, reply.Reply.Reply}}}
use Rattle.xbar_jobs.specs.{Attempt.{Attempt, Phase, next_step}, Office.{Protects, ShowsOffice, office}, OnWords.step_word, declared.effect.Effect.Effect}
use Rattle.xbar_jobs.proofs.{Covered.protected_below, StepActs.act_word}
use Rattle.xbar_moves.specs.{Exchange.{Exchange, IsLawfulExchange, turned, world}, Holding.{Holds, IsAt}, Links.IsPastTurn, Moves.after_step}
use Rattle.xbar_moves.proofs.{Actors.actor_at, FinishedJobs.{IsTurn, turn_there}, GivenBack.conn_behind, MadeEffects.made_show, StepCases.step_cases}
use Rattle.turns.specs.World as worlds

module _ (plan : Tables) where
  -- a record of a marker's turn is that of its attempt past the turn
  pub past_turn : (e : Exchange) (k number turn : ℕ) (a : Attempt) → IsAt e k number a → a.phase ≡ Operates turn
      → (known : IsRecorded (office plan) (map turned e.records) k number turn a) → IsTurn e.records known.place known.recorded → IsPastTurn e k known.place a
  past_turn e k number turn a at past known found = record {
    number = number;
    at = at;
    turn = turn;
    past = past;
    recorded = found.found;
    at_place = found.there;
    turn_is = ap (λ (t : worlds.Record Job Reply). t.turn) found.turn ∙ known.turn_is;
    marker = ap (λ (t : worlds.Record Job Reply). t.actor) found.turn ∙ known.actor;
    number_is = ap (λ (t : worlds.Record Job Reply). t.number) found.turn ∙ known.number_is;
    job = ap (λ (t : worlds.Record Job Reply). t.job) found.turn ∙ known.job;
    reply = known.reply ∙ ap (λ (t : worlds.Record Job Reply). Some t.reply) (sym found.turn);
  }

  -- the connector that protects a word under what is held is held, as no other protects it
  under_held : (number : ℕ) (held : List Conn) (conn : Conn) → IsUnder (office plan) held number → Protects conn number → IsIn conn held
  under_held number held conn under protects =
      let by = under.protects in
      let same : by.word ≡ protects.word = distinct by.word protects.word by.there protects.there (by.named ∙ sym protects.named) in
      let both : Some under.lock ≡ Some conn = sym by.protects ∙ ap protector same ∙ protects.protects in
      let one : under.lock ≡ conn = cc in
      subst (λ (c : Conn). IsIn c held) one under.held

  -- no connector's own word is protected, nor is the turn word
  conn_bare : (own conn : Conn) → ¬ Protects conn (word_number (ConnWord own))
  conn_bare own conn protects = let below = protected_below conn (word_number (ConnWord own)) protects in let behind = conn_behind plan own in
      omega (arith, below, behind)

  turn_bare : (conn : Conn) → ¬ Protects conn 452
  turn_bare conn protects = let below = protected_below conn 452 protects in omega (arith, below)

  free_bare : (held : List Conn) (conn : Conn) → ¬ Protects conn (place (office plan) (free_act {Effect = Effect} held))
  free_bare [] conn protects = turn_bare conn protects
  free_bare (own ∷ held) conn protects = conn_bare own conn protects

  close_held : (effects : List Effect) (held : List Conn) (conn : Conn) → AreUnder (office plan) held effects
      → Protects conn (place (office plan) (closing_act effects held)) → IsIn conn held
  close_held [] held conn under protects = absurd (free_bare held conn protects)
  close_held (effect ∷ effects) held conn under protects = under_held _ held conn (under effect (inl refl)) protects

  module _ (e : Exchange) (lawful : IsLawfulExchange plan e) where
    module _ (k number : ℕ) (a : Attempt) (at : IsAt e k number a) where
      fits_in : (phase : Phase) → a.phase ≡ phase → FitsIn (office plan) (world plan e) k number a phase
      fits_in phase is = subst (FitsIn (office plan) (world plan e) k number a) is (lawful.sound k number a (actor_at e k number a at)).fits

      step_held : (phase : Phase) (conn : Conn) → a.phase ≡ phase → Protects conn (place (office plan) (act_in phase a)) → IsIn conn a.held
      step_held (Requests own) conn is protects = absurd (conn_bare own conn protects)
      step_held (Seizes own expected) conn is protects = absurd (conn_bare own conn protects)
      step_held (Tests word) conn is protects = under_held word a.held conn (fits_in (Tests word) is) protects
      step_held Turns conn is protects = absurd (turn_bare conn protects)
      step_held (Withdraws own) conn is protects = absurd (conn_bare own conn protects)
      step_held GivesBack conn is protects = absurd (free_bare a.held conn protects)
      step_held (Operates turn) conn is protects = close_held a.effects a.held conn (fits_in (Operates turn) is).under protects

      -- a marker whose step is on a protected word holds its connector
      pub holds_alone : (conn : Conn) → Protects conn (step_word (next_step a)) → IsIn conn a.held
      holds_alone conn protects = step_held a.phase conn refl (subst (Protects conn) (act_word plan (act a)) protects)

      -- past its turn, each effect that is left is under a connector that it holds
      effect_held : (turn : ℕ) (effects : List Effect) → a.phase ≡ Operates turn → a.effects ≡ effects → ((conn : Conn) → ¬ IsIn conn a.held) → effects ≡ []
      effect_held turn [] past left free = refl
      effect_held turn (effect ∷ effects) past left free =
          let under = (fits_in (Operates turn) past).under effect (subst (IsIn effect) (sym left) (inl refl)) in
          absurd (free under.lock under.held)

    -- if no connector is held, no effect is left, so the words show the set after the records
    pub free_shows : ((k : ℕ) (conn : Conn) → ¬ Holds e k conn) → ShowsOffice plan e.words (after plan e.records)
    free_shows free = made_show plan e lawful (λ k number turn a at past.
        effect_held k number a at turn a.effects past refl (λ conn held. free k conn (record { number = number; attempt = a; at = at; held = held })))

    -- the step of a marker that does not hold a word's connector spares the word
    pub spares_held : (k n : ℕ) (conn : Conn) → Protects conn n → ¬ Holds e k conn → slice_index (after_step plan k e).words n ≡ slice_index e.words n
    spares_held k n conn protects free = elim (step_cases plan e k) [
      | inl same ↦ ap (λ (x : Exchange). slice_index x.words n) same
      | inr made ↦
          ap (λ (x : Exchange). slice_index x.words n) made.is
          ∙ index_other e.words _ n _ (λ same. free (record {
            number = made.number;
            attempt = made.attempt;
            at = made.at;
            held = holds_alone k made.number made.attempt made.at conn (subst (Protects conn) same protects);
          }))
    ]

    -- a marker past its turn has its record in the order
    pub past_recorded : (k number turn : ℕ) (a : Attempt) → IsAt e k number a → a.phase ≡ Operates turn → (place : ℕ) × IsPastTurn e k place a
    past_recorded k number turn a at past =
        let fits : IsOperating (office plan) e.words (map turned e.records) k number turn a = fits_in k number a at (Operates turn) past in
        let known : IsRecorded (office plan) (map turned e.records) k number turn a = fits.recorded in
        let found : IsTurn e.records known.place known.recorded =
        turn_there e.records known.place known.recorded (slice_get e.records known.place) refl
        (sym (slice_get-map turned e.records known.place) ∙ known.at_place) in (
          known.place,
          past_turn e k number turn a at past known found,
        )
