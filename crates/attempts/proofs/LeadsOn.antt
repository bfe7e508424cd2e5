-- steps that lead on from where others led to
use Rattle.std.proofs.Common.{ℕ, zero, suc, refl, sym, subst}
use Rattle.{turns.specs.{Attempt.{IsAnswerTo, act}, System.System}, attempts.specs.WalkOnWords.{IsNoTurn, LeadsTo, Moment, stepped, answer_at}}

module _ (O : System) (k : ℕ) where
  -- one step more
  pub leads_then : (count : ℕ) (first m : Moment O) → LeadsTo O k count first m → IsNoTurn O (act m.attempt) → IsAnswerTo (act m.attempt) (answer_at O k m)
      → LeadsTo O k (suc count) first (stepped O k m)
  unfolding LeadsTo
  leads_then zero first m leads goes answers = subst (λ (x : Moment O). LeadsTo O k (suc zero) x (stepped O k m)) (sym leads) (goes, (answers, refl))
  leads_then (suc count) first m leads goes answers = (leads.0, (leads.1.0, leads_then count (stepped O k first) m leads.1.1 goes answers))
