-- offices that markers make one of another, in the order of their numbers
use Rattle.std.proofs.Common.{◌≡◌, ◌≢◌, ℕ, zero, suc, ◌+◌, ◌<◌, ◌⊎◌, Bool, true, false, length, inl, inr, refl, sym, ◌∙◌, ap, subst, arith, add_comm, Some}
use Rattle.std.proofs.Common.{slice_get}
use Rattle.{turns.proofs.Lists.one_or_two, xbar_plan.specs.Tables.Tables, xbar_core.specs.Ends.{EachMakes, EndsIfPast, GivesBack, IsPast, RunsToEnd, Settles}}
use Rattle.xbar_moves.specs.{Exchange.{Exchange, Marker, Work, is_idle}, Moves.{given_at, after_step, steps}, Settling.for_each}
use Rattle.xbar_moves.proofs.{Keeping.for_each_keeps, StepCases.step_cases}
use Rattle.xbar_moves.specs.declared.event.Given.TheVariants as given
use Rattle.xbar_moves.specs.declared.event.Given.{Given}

-- what a marker makes keeps this, leaves the other markers as they are, and has that of it
pub record IsStage (Makes : ℕ → Exchange → Exchange → Type 0) (Has : Exchange → Type 0) (Done : Work → Type 0) : Type 0 where
  pub keeps : (k : ℕ) (before after : Exchange) → Makes k before after → Has before → Has after
  pub others : (k j : ℕ) (before after : Exchange) → Makes k before after → j ≢ k → slice_get after.markers j ≡ slice_get before.markers j
  pub does : (k : ℕ) (before after : Exchange) (m : Marker) → Makes k before after → Has before → slice_get after.markers k ≡ Some m → Done m.work

module _ (Makes : ℕ → Exchange → Exchange → Type 0) where
  -- if each marker leads to only one office, so do they all
  each_one : ((k : ℕ) (before one other : Exchange) → Makes k before one → Makes k before other → one ≡ other) → (count : ℕ) (before one other : Exchange)
      → EachMakes Makes count before one → EachMakes Makes count before other → one ≡ other
  each_one alone zero before one other this that = this ∙ sym that
  each_one alone (suc k) before one other this that =
      let same : this.0 ≡ that.0 = each_one alone k before this.0 that.0 this.1 that.1 in
      alone k that.0 one other (subst (λ (x : Exchange). Makes k x one) same this.2) that.2

  -- changes that each marker makes are made by all
  pub each_made : (change : ℕ → Exchange → Exchange) (Has : Exchange → Type 0) → ((k : ℕ) (e : Exchange) → Has e → Has (change k e))
      → ((k : ℕ) (e : Exchange) → Has e → Makes k e (change k e)) → (count : ℕ) (e : Exchange) → Has e → EachMakes Makes count e (for_each change count e)
  unfolding for_each
  each_made change Has keeps makes zero e has = refl
  each_made change Has keeps makes (suc k) e has =
      (for_each change k e, each_made change Has keeps makes k e has, makes k (for_each change k e) (for_each_keeps Has change keeps k e has))

  module _ (Has : Exchange → Type 0) (Done : Work → Type 0) (stage : IsStage Makes Has Done) where
    pub each_keeps : (count : ℕ) (before after : Exchange) → EachMakes Makes count before after → Has before → Has after
    each_keeps zero before after made has = subst Has (sym made) has
    each_keeps (suc k) before after made has = stage.keeps k made.0 after made.2 (each_keeps k before made.0 made.1 has)

    -- once `count` markers have made the stage, these have this
    pub each_does : (count : ℕ) (before after : Exchange) → EachMakes Makes count before after → Has before → (j : ℕ) (m : Marker) → j < count
        → slice_get after.markers j ≡ Some m → Done m.work
    each_does zero before after made has j m below there = absurd (omega arith)
    each_does (suc k) before after made has j m below there = by (one_or_two j k) (λ less at. each_does k before made.0 made.1 has j m less at) where
      by : (j ≡ k) ⊎ (j ≢ k) → (j < k → slice_get made.0.markers j ≡ Some m → Done m.work) → Done m.work
      by (inl one) earlier =
          stage.does k made.0 after m made.2 (each_keeps k before made.0 made.1 has) (subst (λ (i : ℕ). slice_get after.markers i ≡ Some m) one there)
      by (inr two) earlier = earlier (omega (arith, two, below)) (sym (stage.others k j made.0 after made.2 two) ∙ there)

-- whether a marker is past its turn
pub past_or_not : (e : Exchange) (k : ℕ) → IsPast e k ⊎ (¬ IsPast e k)
past_or_not e k = by (given_at e k) refl where
  by : (what : Given) → given_at e k ≡ what → IsPast e k ⊎ (¬ IsPast e k)
  by given.PastTurn is = inl is
  by given.Given is = inr (λ past. let two : ◌≡◌ {A = Given} given.Given given.PastTurn = sym is ∙ past in cc)
  by given.Idle is = inr (λ past. let two : ◌≡◌ {A = Given} given.Idle given.PastTurn = sym is ∙ past in cc)

module _ (plan : Tables) where
  -- if marker k is idle, its steps change nothing
  step_still : (k : ℕ) (e : Exchange) → ((m : Marker) → slice_get e.markers k ≡ Some m → is_idle m.work ≡ true) → after_step plan k e ≡ e
  step_still k e idle = elim (step_cases plan e k) [
    | inl same ↦ same
    | inr made ↦ absurd (let both : ◌≡◌ {A = Bool} true false = sym (idle made.at.marker made.at.there) ∙ ap is_idle made.at.work ∙ made.goes in cc)
  ]

  steps_still : (k count : ℕ) (e : Exchange) → ((m : Marker) → slice_get e.markers k ≡ Some m → is_idle m.work ≡ true) → steps plan k count e ≡ e
  unfolding steps
  steps_still k zero e idle = refl
  steps_still k (suc count) e idle = ap (steps plan k count) (step_still k e idle) ∙ steps_still k count e idle

  -- a number of steps, and then a number of more
  steps_more : (k one more : ℕ) (e : Exchange) → steps plan k (one + more) e ≡ steps plan k more (steps plan k one e)
  unfolding steps
  steps_more k zero more e = let none : 0 + more ≡ more = omega arith in ap (λ (n : ℕ). steps plan k n e) none
  steps_more k (suc one) more e =
      let next : suc one + more ≡ suc (one + more) = omega arith in
      ap (λ (n : ℕ). steps plan k n e) next ∙ steps_more k one more (after_step plan k e)

  -- a marker that runs to its end comes to one office, whatever the count of its steps
  run_more : (k more : ℕ) (before after : Exchange) (ends : RunsToEnd plan k before after) → after ≡ steps plan k (ends.count + more) before
  run_more k more before after ends =
      sym (steps_still k more after ends.idle)
      ∙ ap (steps plan k more) ends.steps_are
      ∙ sym (steps_more k ends.count more before)

  one_run : (k : ℕ) (before one other : Exchange) → RunsToEnd plan k before one → RunsToEnd plan k before other → one ≡ other
  one_run k before one other this that =
      run_more k that.count before one this
      ∙ ap (λ (n : ℕ). steps plan k n before) (add_comm this.count that.count)
      ∙ sym (run_more k this.count before other that)

  one_if_past : (k : ℕ) (before one other : Exchange) → EndsIfPast plan k before one → EndsIfPast plan k before other → one ≡ other
  one_if_past k before one other this that = elim (past_or_not before k) [
    | inl past ↦ one_run k before one other (this.past past) (that.past past)
    | inr not ↦ this.other not ∙ sym (that.other not)
  ]

  -- an office settles in one way
  pub one_settles : (before one other : Exchange) → Settles plan before one → Settles plan before other → one ≡ other
  one_settles before one other this that =
      let count = length before.markers in
      let ended : this.ended ≡ that.ended = each_one (EndsIfPast plan) one_if_past count before this.ended that.ended this.ends that.ends in
      let given : this.given ≡ that.given =
      each_one (GivesBack plan) (λ k x y z is also. is ∙ sym also) count that.ended this.given that.given
      (subst (λ (x : Exchange). EachMakes (GivesBack plan) count x this.given) ended this.gives) that.gives in
      each_one (RunsToEnd plan) one_run count that.given one other (subst (λ (x : Exchange). EachMakes (RunsToEnd plan) count x one) given this.runs) that.runs
