-- the records of an office are the turns of its world
use Rattle.std.proofs.Common.{◌≡◌, ℕ, suc, ◌+◌, ◌^◌, ◌%◌, ◌<◌, List, [], ◌∷◌, length, map, slice_index, refl, ap, ◌∙◌, subst, arith, mod-eq_of_lt}
use Rattle.{xbar_equip.specs.{Word.{TurnWord, word_number}, declared.path.Path.Path}, xbar_plan.specs.Tables.Tables}
use Rattle.xbar_office.specs.{Legal.{AreJobs, HaveReplies, HaveTurns, IsLegal, after, after_jobs, jobs_of}, Whole.whole, declared.reply.Record.Record}
use Rattle.{xbar_jobs.specs.Office.{ShowsOffice, office}, xbar_moves.specs.{Exchange.{Exchange, IsLawfulExchange, turned}, Holding.completed}}
use Rattle.turns.specs.Law as law
use Rattle.turns.specs.World as worlds

-- there are as many turns as records
pub length-turned : (records : List Record) → length (map turned records) ≡ length records
length-turned [] = refl
length-turned (r ∷ records) = ap suc (length-turned records)

module _ (plan : Tables) where
  -- the paths after the turns are those after the jobs of the records
  pub after_same : (paths : List Path) (records : List Record) → worlds.after (office plan) paths (map turned records) ≡ after_jobs plan paths (jobs_of records)
  after_same paths [] = refl
  after_same paths (r ∷ records) = after_same (whole plan paths r.job).paths records

  -- turns that are legal are of jobs that there are
  pub jobs_legal : (i : ℕ) (paths : List Path) (records : List Record) → law.IsLegal (office plan) i paths (map turned records) → AreJobs (jobs_of records)
  jobs_legal i paths [] legal = tt
  jobs_legal i paths (r ∷ records) legal = (legal.0, jobs_legal (suc i) (whole plan paths r.job).paths records legal.3)

  -- have the replies of the one-marker office
  pub replies_legal : (i : ℕ) (paths : List Path) (records : List Record) → law.IsLegal (office plan) i paths (map turned records)
      → HaveReplies plan paths records
  replies_legal i paths [] legal = tt
  replies_legal i paths (r ∷ records) legal = (legal.2, replies_legal (suc i) (whole plan paths r.job).paths records legal.3)

  -- and, if they are few enough, the turns from the first one on
  pub turns_legal : (i turn : ℕ) (paths : List Path) (records : List Record) → i ≡ turn → i + length records < 2 ^ 64
      → law.IsLegal (office plan) i paths (map turned records) → HaveTurns turn records
  turns_legal i turn paths [] same fits legal = tt
  turns_legal i turn paths (r ∷ records) same fits legal =
      (legal.1 ∙ mod-eq_of_lt (omega arith) ∙ same, turns_legal (suc i) (turn + 1) (whole plan paths r.job).paths records (omega arith) (omega arith) legal.3)

  -- so are the records of a lawful office
  pub records_legal : (e : Exchange) → IsLawfulExchange plan e → length e.records < 2 ^ 64 → IsLegal plan e.records
  records_legal e lawful few = record {
    jobs = jobs_legal 0 [] e.records lawful.legal;
    turns = turns_legal 0 0 [] e.records refl (omega (arith, few)) lawful.legal;
    replies = replies_legal 0 [] e.records lawful.legal;
  }

  -- the turn word counts them
  pub counts : (e : Exchange) → IsLawfulExchange plan e → slice_index e.words (word_number TurnWord) ≡ length e.records % 2 ^ 64
  counts e lawful = lawful.turn ∙ ap (λ (n : ℕ). n % 2 ^ 64) (length-turned e.records)

  -- and the words show the paths after them once all effects are made
  pub completed_shows : (e : Exchange) → IsLawfulExchange plan e → ShowsOffice plan (completed plan e) (after plan e.records)
  completed_shows e lawful = subst (λ (paths : List Path). ShowsOffice plan (completed plan e) paths) (after_same [] e.records) lawful.shows
