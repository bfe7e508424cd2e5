-- what comes of a step of which something is left, and of the last one of a job past its turn
use Rattle.std.proofs.Common.{◌≡◌, ℕ, false, List, [], ◌∷◌, refl, ◌∙◌, ap, subst, Some}
use Rattle.turns.specs.{Attempt.{act, change}, Law.FitsIn, Runs.is_finished, declared.phase.Phase.TheVariants.Operates}
use Rattle.{xbar_equip.specs.declared.conn.Conn.Conn, xbar_plan.specs.Tables.Tables, xbar_office.specs.declared.reply.{Record.Record, Reply.Reply}}
use Rattle.{xbar_jobs.specs.{Attempt.Attempt, Office.office}, xbar_moves.specs.{AtWork.answer_to_step, Exchange.{Exchange, IsLawfulExchange, world}}}
use Rattle.xbar_moves.{specs.{Holding.IsAt, Moves.{event_at_step, event_of}, declared.event.Event.Event}, proofs.Actors.actor_at}
use Rattle.xbar_moves.specs.declared.event.Event.TheVariants as event

module _ (plan : Tables) where
  -- the event of an attempt's step, by the answer
  abbrev pub come_of : ℕ → ℕ → List ℕ → Attempt → Event
  come_of k number words a = event_of k number a (change (office plan) a (answer_to_step k words a)) (answer_to_step k words a)

  pub event_is : (e : Exchange) (k number : ℕ) (a : Attempt) → IsAt e k number a → is_finished (act a) ≡ false
      → event_at_step plan k e ≡ come_of k number e.words a
  event_is e k number a at goes = rw (at.there, at.work, goes) refl

  -- the free of the last connector past the turn finishes the job
  last_comes : (k number turn : ℕ) (words : List ℕ) (a : Attempt) (conn : Conn) (reply : Reply)
      → come_of k number words (record a { phase = Operates turn; effects = []; held = conn ∷ []; reply = Some reply })
      ≡ event.Finished (record { turn = turn; marker = k; job_no = number; job = a.job; reply = reply })
  last_comes k number turn words a conn reply = refl

  -- so it does wherever the job has its record
  pub last_finishes : (e : Exchange) (k number turn : ℕ) (a : Attempt) (conn : Conn) → IsLawfulExchange plan e → IsAt e k number a → a.phase ≡ Operates turn
      → a.effects ≡ [] → a.held ≡ conn ∷ [] → (r : Record) × (event_at_step plan k e ≡ event.Finished r)
  last_finishes e k number turn a conn lawful at past none last =
      let fits = subst (FitsIn (office plan) (world plan e) k number a) past (lawful.sound k number a (actor_at e k number a at)).fits in
      let reply = fits.recorded.recorded.reply in
      let b : Attempt = record a { phase = Operates turn; effects = []; held = conn ∷ []; reply = Some reply } in
      let is : a ≡ b = λ i. record a { phase = past i; effects = none i; held = last i; reply = fits.recorded.reply i } in (
        record { turn = turn; marker = k; job_no = number; job = a.job; reply = reply },
        event_is e k number a at (ap (λ (c : Attempt). is_finished (act c)) is)
            ∙ ap (come_of k number e.words) is
            ∙ last_comes k number turn e.words a conn reply,
      )
