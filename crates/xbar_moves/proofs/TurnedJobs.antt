-- what a marker past its turn decided on words that show the set before its record, and what it has made of it
use Rattle.std.proofs.Common.{◌≡◌, ℕ, zero, suc, List, [], ◌∷◌, ◌++◌, length, map, take, slice_index, refl, sym, ◌∙◌, ap, subst, arith, Some, slice_get}
use Rattle.{std.proofs.lemmas.Option.slice_get-map, turns.specs.{Among.IsIn, Law.{FitsIn, IsOperating, IsRecorded, IsSound}, Script.run}}
use Rattle.turns.{specs.{System.{AreDue, AreUnder, IsUnder}, declared.phase.Phase.TheVariants.Operates}, proofs.Lists.in_back}
use Rattle.{xbar_equip.specs.declared.path.Path.Path, xbar_plan.specs.{Tables.Tables, Lawful.IsLawful}, xbar_office.specs.Legal.{IsJob, after, after_jobs}}
use Rattle.xbar_office.{specs.{Legal.jobs_of, Whole.whole, declared.{job.Job.Job, reply.{Record.Record, Reply.Reply}}}, proofs.AuditedRecords.replies_at}
use Rattle.xbar_jobs.specs.{Attempt.Attempt, Closing.{effects as effects_of, value_after as made_of}, Jobs.script, Keeping.AreEffects}
use Rattle.xbar_jobs.{specs.{Office.{ShowsOffice, office}, declared.{decision.Decision.Decision, effect.Effect.Effect}}, proofs.Covered.run_range}
use Rattle.{xbar_jobs.proofs.OfficeSystem.script_decides, xbar_moves.specs.{Exchange.{Exchange, IsLawfulExchange, turned, world}, Holding.IsAt}}
use Rattle.xbar_moves.{specs.Links.IsPastTurn, proofs.{HeldWords.past_turn, Actors.actor_at, FinishedJobs.{IsTurn, turn_there}, Records.replies_legal}}
use Rattle.turns.specs.World as worlds

-- the set before a record
abbrev pub before : Tables → Exchange → ℕ → List Path
before plan e place = after plan (take place e.records)

-- marker k's decision at its turn, on words that show the set before its record; of the decision's effects some are made, and the others are left
pub record Decided (plan : Tables) (e : Exchange) (k : ℕ) (a : Attempt) : Type 0 where
  pub place : ℕ
  pub past : IsPastTurn e k place a
  pub job : IsJob a.job
  pub words : List ℕ
  pub size : length words ≡ 453
  pub shows : ShowsOffice plan words (before plan e place)
  pub next : before plan e (suc place) ≡ (whole plan (before plan e place) a.job).paths
  pub reply : a.reply ≡ Some (run words (script plan a.job)).reply
  pub made : List Effect
  pub effects : effects_of (run words (script plan a.job)) ≡ made ++ a.effects
  pub range : AreEffects a.effects
  pub due : AreDue (office plan) e.words a.effects
  -- while an effect is left, all of them are under what is held; what is under that is now what those made have made of the words
  pub left_under : AreUnder (office plan) a.held a.effects
  pub made_under : (effect : Effect) → IsIn effect a.effects → AreUnder (office plan) a.held made
  pub since : (number : ℕ) → IsUnder (office plan) a.held number → slice_index e.words number ≡ made_of made number (slice_index words number)

module _ (plan : Tables) where
  -- the set before a turn is that after the jobs of the records before it
  before_same : (paths : List Path) (place : ℕ) (records : List Record)
      → worlds.after (office plan) paths (take place (map turned records)) ≡ after_jobs plan paths (jobs_of (take place records))
  before_same paths zero records = refl
  before_same paths (suc place) [] = refl
  before_same paths (suc place) (r ∷ records) = before_same (whole plan paths r.job).paths place records

  -- with one record more it is what its job leaves of it
  next_there : (paths : List Path) (place : ℕ) (records : List Record) (r : Record) → slice_get records place ≡ Some r
      → after_jobs plan paths (jobs_of (take (suc place) records)) ≡ (whole plan (after_jobs plan paths (jobs_of (take place records))) r.job).paths
  next_there paths place [] r here = absurd cc
  next_there paths zero (x ∷ records) r here = let same : x ≡ r = cc in ap (λ (y : Record). (whole plan paths y.job).paths) same
  next_there paths (suc place) (x ∷ records) r here = next_there (whole plan paths x.job).paths place records r here

module _ (plan : Tables) (laws : IsLawful plan) (e : Exchange) (lawful : IsLawfulExchange plan e) (k number turn : ℕ) (a : Attempt) (at : IsAt e k number a)
    (past : a.phase ≡ Operates turn) where
  abbrev sound : IsSound (office plan) (world plan e) k number a
  sound = lawful.sound k number a (actor_at e k number a at)

  abbrev fits : IsOperating (office plan) e.words (map turned e.records) k number turn a
  fits = subst (FitsIn (office plan) (world plan e) k number a) past sound.fits

  abbrev known : IsRecorded (office plan) (map turned e.records) k number turn a
  known = fits.recorded

  abbrev found : IsTurn e.records known.place known.recorded
  found =
      turn_there e.records known.place known.recorded (slice_get e.records known.place) refl (sym (slice_get-map turned e.records known.place) ∙ known.at_place)

  job_is : found.found.job ≡ a.job
  job_is = ap (λ (t : worlds.Record Job Reply). t.job) found.turn ∙ known.job

  abbrev decision : Decision
  decision = run fits.decided.words (script plan a.job)

  shows : ShowsOffice plan fits.decided.words (before plan e known.place)
  shows = subst (ShowsOffice plan fits.decided.words) (before_same plan [] known.place e.records) fits.decided.shows

  -- the reply is the decision's
  reply_is : a.reply ≡ Some decision.reply
  reply_is =
      known.reply
      ∙ ap (λ (t : worlds.Record Job Reply). Some t.reply) (sym found.turn)
      ∙ ap Some (
      replies_at plan [] e.records known.place found.found (replies_legal plan 0 [] e.records lawful.legal) found.there
      ∙ ap (λ (job : Job). (whole plan (before plan e known.place) job).reply) job_is
      ∙ sym (script_decides plan fits.decided.words (before plan e known.place) a.job laws (omega (arith, fits.decided.size)) shows sound.job).reply)

  -- the effects that are left are of the office
  left_range : AreEffects a.effects
  left_range effect within =
      let all = run_range plan fits.decided.words a.job laws sound.job fits.decided.are_words in
      all effect (subst (IsIn effect) (sym fits.decided.effects) (in_back effect fits.decided.made a.effects within))

  -- what a marker past its turn decided
  pub decided : Decided plan e k a
  decided = record {
    place = known.place;
    past = past_turn plan e k number turn a at past known found;
    job = sound.job;
    words = fits.decided.words;
    size = fits.decided.size;
    shows = shows;
    next = next_there plan [] known.place e.records found.found found.there ∙ ap (λ (job : Job). (whole plan (before plan e known.place) job).paths) job_is;
    reply = reply_is;
    made = fits.decided.made;
    effects = fits.decided.effects;
    range = left_range;
    due = fits.due;
    left_under = fits.under;
    made_under = fits.decided.under;
    since = fits.decided.since;
  }
