-- a marker that is preferred is the lowest of those that have requested the connector
use Rattle.std.proofs.Common.{◌≡◌, ◌≢◌, ℕ, zero, suc, ◌+◌, ◌<◌, ◌≤◌, ◌⊎◌, Bool, true, false, inl, inr, refl, sym, ◌∙◌, ap, subst, arith, ◌==◌, ◌%◌, Option}
use Rattle.std.proofs.Common.{Some, None, if◌then◌else◌}
use Rattle.{std.{specs.Int.bit_at, proofs.lemmas.Option.same_Some}, turns.specs.{Attempt.asked_in, Sharings.{by_holder, by_request, first_request, judged}}}
use Rattle.{turns.{specs.Sharings.lower_request, proofs.Lists.one_or_two}, xbar_equip.specs.declared.conn.Conn.Conn, xbar_plan.specs.Tables.Tables}
use Rattle.{xbar_jobs.specs.Attempt.Attempt, xbar_moves.specs.{Exchange.{Exchange, IsLawfulExchange}, Holding.{AsksFor, HasRequested}, Moves.event_at_step}}
use Rattle.xbar_moves.proofs.{AskedConnectors.{few, judged_preferred, preferred_answer}, Connectors.tells_truth, Jobs.one_job, Steps.has_come}
use Rattle.turns.specs.declared.judgement.Judgement.TheVariants as judgement
use Rattle.xbar_moves.specs.declared.event.Event.TheVariants as event

-- whether marker j's request is in a word
abbrev valid : ℕ → ℕ → Bool
valid word j = bit_at word (8 + j) == 1

-- of the requests from one on, the first is found
first_least : (word from count other j : ℕ) → first_request word from count ≡ Some other → from ≤ j → j < other → valid word j ≡ true → ⊥
first_least word from zero other j found above below set = absurd cc
first_least word from (suc count) other j found above below set =
    by (valid word from) refl found (λ later next. first_least word (suc from) count other j later next below set) where
      by : (b : Bool) → valid word from ≡ b → (if b then Some from else first_request word (suc from) count) ≡ Some other
          → (first_request word (suc from) count ≡ Some other → suc from ≤ j → ⊥) → ⊥
      by true here is later = let one : from ≡ other = cc in omega (arith, one, above, below)
      by false here is later = at (one_or_two from j) where
        at : (from ≡ j) ⊎ (from ≢ j) → ⊥
        at (inl one) = let both : ◌≡◌ {A = Bool} true false = sym set ∙ ap (valid word) (sym one) ∙ here in cc
        at (inr two) = later is (omega (arith, two, above))

-- so if a marker is preferred, no lower one's request is there
request_least : (word k other j : ℕ) (found : Option ℕ) → first_request word 0 k ≡ found → by_request found ≡ judgement.Preferred other → j < other
    → valid word j ≡ true → ⊥
request_least word k other j None is judges below set = absurd cc
request_least word k other j (Some first) is judges below set = let one : first ≡ other = cc in
    first_least word 0 k first j is (omega arith) (omega (arith, one, below)) set

judged_least : (word k other j : ℕ) → judged k word ≡ judgement.Preferred other → j < other → valid word j ≡ true → ⊥
unfolding judged lower_request
judged_least word k other j judges below set = by (word % 64) judges where
  by : (holder : ℕ) → by_holder holder (first_request word 0 k) ≡ judgement.Preferred other → ⊥
  by zero is = request_least word k other j (first_request word 0 k) refl is below set
  by (suc holder) is = cc

-- the word that was judged has all requests, so no lower marker has requested the connector
pub preferred_least : (plan : Tables) (e : Exchange) (k other : ℕ) → IsLawfulExchange plan e → event_at_step plan k e ≡ event.Preferred other → (conn : Conn)
    → AsksFor e k conn → (j : ℕ) → j < other → ¬ HasRequested e j conn
preferred_least plan e k other lawful told conn asks j below requests =
    let come = has_come plan e k (event.Preferred other) (λ same. cc) told in
    let answer = preferred_answer k come.number come.attempt _ _ other come.comes in
    let seen = judged_preferred plan e lawful k come.number come.attempt come.at other answer in
    let one = one_job e k come.number asks.number come.attempt asks.attempt come.at asks.at in
    let same : seen.conn ≡ conn = same_Some _ _ (sym seen.asked ∙ ap (λ (a : Attempt). asked_in a.phase) one.1 ∙ asks.asked) in
    let within = few plan e lawful j requests.number requests.attempt requests.at in
    let set = ((tells_truth plan e lawful seen.conn seen.range).requests j within).1 (subst (HasRequested e j) (sym same) requests) in
    judged_least seen.word k other j seen.judges below (seen.all j within set)
