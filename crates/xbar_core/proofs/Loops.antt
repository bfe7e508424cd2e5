-- how far a loop over steps has come
use Rattle.std.proofs.Common.{◌≡◌, ℕ, ◌+◌, ◌-◌, ◌<◌, ◌≤◌, length, refl, sym, ◌∙◌, ap, arith, Option, Some, None, slice_get, true}
use Rattle.{xbar_plan.specs.Tables.Tables, xbar_moves.specs.{Exchange.{Exchange, Marker, OfPlan, is_idle}, Moves.{after_step, steps}}}
use Rattle.{xbar_moves.proofs.{Markers.none_within, Keeping.steps_keep, StepCases.step_count}, xbar_core.proofs.{Ending.steps_idle, LedSteps.steps_then}}

-- the steps that are left lead to what all of a marker's steps lead to
pub record AreLeft (first now : OfPlan) (k count left : ℕ) : Type 0 where
  pub plan : now.plan ≡ first.plan
  pub size : length now.exchange.markers ≡ length first.exchange.markers
  pub rest : steps first.plan k count first.exchange ≡ steps first.plan k left now.exchange

pub all_left : (first : OfPlan) (k count : ℕ) → AreLeft first first k count count
all_left first k count = record { plan = refl; size = refl; rest = refl }

-- as many markers stay
steps_count : (plan : Tables) (k made : ℕ) (e : Exchange) → length (steps plan k made e).markers ≡ length e.markers
steps_count plan k made e = steps_keep plan (λ (x : Exchange). length x.markers ≡ length e.markers) k (λ x same. step_count plan x k ∙ same) made e refl

pub some_made : (first now next : OfPlan) (k count left made : ℕ) → made ≤ left → AreLeft first now k count left
    → next ≡ record now { exchange = steps now.plan k made now.exchange } → AreLeft first next k count (left - made)
some_made first now next k count left made below so_far is =
    let parts : left ≡ made + (left - made) = omega arith in
    record {
      plan = ap (λ (o : OfPlan). o.plan) is ∙ so_far.plan;
      size = ap (λ (o : OfPlan). length o.exchange.markers) is ∙ steps_count now.plan k made now.exchange ∙ so_far.size;
      rest =
          so_far.rest ∙ ap (λ (n : ℕ). steps first.plan k n now.exchange) parts
          ∙ steps_then first.plan k made (left - made) now.exchange
          ∙ ap (λ (p : Tables). steps first.plan k (left - made) (steps p k made now.exchange)) (sym so_far.plan)
          ∙ ap (λ (o : OfPlan). steps first.plan k (left - made) o.exchange) (sym is);
    }

same_end : (first now : OfPlan) (after : Exchange) → now.plan ≡ first.plan → after ≡ now.exchange → now ≡ record first { exchange = after }
same_end first now after plan same = λ i. record { plan = plan i; exchange = sym same i }

pub none_left : (first now : OfPlan) (k count left : ℕ) → left ≤ 0 → AreLeft first now k count left
    → now ≡ record first { exchange = steps first.plan k count first.exchange }
unfolding steps
none_left first now k count left at_end so_far =
    let none : left ≡ 0 = omega arith in
    same_end first now (steps first.plan k count first.exchange) so_far.plan (so_far.rest ∙ ap (λ (n : ℕ). steps first.plan k n now.exchange) none)

-- the steps that are left change nothing once the marker is idle
pub rest_idle : (first now : OfPlan) (k count left : ℕ) → k < length first.exchange.markers → AreLeft first now k count left
    → ((m : Marker) → slice_get now.exchange.markers k ≡ Some m → true ≡ is_idle m.work)
    → now ≡ record first { exchange = steps first.plan k count first.exchange }
rest_idle first now k count left within so_far idle =
    same_end first now (steps first.plan k count first.exchange) so_far.plan (so_far.rest ∙ by (slice_get now.exchange.markers k) refl) where
      by : (found : Option Marker) → slice_get now.exchange.markers k ≡ found → steps first.plan k left now.exchange ≡ now.exchange
      by None none = let size = so_far.size in absurd (none_within now.exchange.markers k (omega arith) none)
      by (Some m) there = steps_idle first.plan k left now.exchange m there (sym (idle m there))

-- if no step was made, nothing has changed
pub none_ran : (first now : OfPlan) (k made : ℕ) → made ≤ 0 → now ≡ record first { exchange = steps first.plan k made first.exchange } → now ≡ first
unfolding steps
none_ran first now k made none is = let zero_made : made ≡ 0 = omega arith in
    is ∙ ap (λ (n : ℕ). record first { exchange = steps first.plan k n first.exchange }) zero_made

-- and then the next step is one
pub one_made : (first now next : OfPlan) (k : ℕ) → now ≡ first → next ≡ record now { exchange = after_step now.plan k now.exchange }
    → next ≡ record first { exchange = steps first.plan k 1 first.exchange }
unfolding steps
one_made first now next k same is = is ∙ ap (λ (o : OfPlan). record o { exchange = after_step o.plan k o.exchange }) same
