-- what an attempt's count comes to after answers one after another
use Rattle.std.proofs.Common.{◌≡◌, ℕ, ◌+◌, ◌-◌, ◌^◌, ◌<◌, Bool, true, false, List, [], ◌∷◌, ◌++◌, length, refl, sym, ◌∙◌, subst, arith, ◌==◌, Result, Ok, Err}
use Rattle.std.proofs.Common.{if◌then◌else◌, eqb-true}
use Rattle.{std.specs.Prelude.⊤, turns.specs.{Attempt.{AttemptOf, IsAnswer, act_in, begin, change, changed, walk_result, goes_on, operated}, Bounds.AreSteady}}
use Rattle.turns.specs.{Bounds.IsSteady, System.System, declared.answer.Answer.{Answer, TheVariants.{Asked, Seized, Held, Preferred, Again, Value, Turn, Done}}}
use Rattle.turns.specs.declared.{phase.Phase.{Phase, TheVariants.{Requests, Seizes, Tests, Turns, Withdraws, GivesBack, Operates}}, wanted.Wanted.Wanted}
use Rattle.turns.specs.declared.wanted.Wanted.TheVariants.{Seize, Test}
use Rattle.attempts.specs.Counting.{CountedOf, after_answer, after_answers, count_in, counted, fresh}

-- while steady answers come, an attempt that has made a step seizes, holds something or has decided
abbrev HasBegun : {Lock : Type 0} → Phase Lock ℕ → List Lock → Type 0
HasBegun (Requests lock) held = ¬ (held ≡ [])
HasBegun (Tests word) held = ¬ (held ≡ [])
HasBegun (Withdraws lock) held = ⊥
HasBegun GivesBack held = ⊥
HasBegun phase held = ⊤

none_held : {Lock : Type 0} (held : List Lock) → length held ≡ 0 → held ≡ []
none_held [] e = refl
none_held (own ∷ held) e = absurd (omega arith)

-- so its count isn't begun anew
counts_on : {Lock : Type 0} (phase : Phase Lock ℕ) (held : List Lock) (count : ℕ) → HasBegun phase held → count_in phase held count ≡ count
counts_on (Requests lock) held count begun = at (length held == 0) refl where
  at : (b : Bool) → (length held == 0) ≡ b → (if b then 0 else count) ≡ count
  at true e = absurd (begun (none_held held (eqb-true (length held) 0 e)))
  at false e = refl
counts_on (Withdraws lock) held count begun = absurd begun
counts_on GivesBack held count begun = absurd begun
counts_on phase held count begun = refl

-- nor does it stay, below what 32 bits count
counted_on : (count : ℕ) → count + 1 < 2 ^ 32 → counted count ≡ count + 1
counted_on count below = at (count == 2 ^ 32 - 1) refl where
  at : (b : Bool) → (count == 2 ^ 32 - 1) ≡ b → (if b then count else count + 1) ≡ count + 1
  at true same = let most = eqb-true count (2 ^ 32 - 1) same in absurd (omega (arith, most, below))
  at false other = refl

not_empty : {Lock : Type 0} (held : List Lock) (last : Lock) → ¬ (held ++ last ∷ [] ≡ [])
not_empty [] last e = absurd cc
not_empty (own ∷ held) last e = absurd cc

module _ (O : System) where
  open O use {Lock, Job, Effect, Decision}

  begun_on : (a : AttemptOf O) (found : Result Decision (Wanted Lock ℕ)) → ¬ (a.held ≡ []) → HasBegun (goes_on O a found).phase (goes_on O a found).held
  begun_on a (Ok decision) some = tt
  begun_on a (Err (Seize lock)) some = some
  begun_on a (Err (Test word)) some = some

  begun_operated : (a : AttemptOf O) (turn : ℕ) (effects : List Effect) → a.phase ≡ Operates turn
      → HasBegun (operated a effects).phase (operated a effects).held
  begun_operated a turn [] at = subst (λ (phase : Phase Lock ℕ). HasBegun phase (operated a []).held) (sym at) tt
  begun_operated a turn (effect ∷ effects) at = subst (λ (phase : Phase Lock ℕ). HasBegun phase a.held) (sym at) tt

  begun_in : (a : AttemptOf O) (phase : Phase Lock ℕ) (answer : Answer) → a.phase ≡ phase → HasBegun phase a.held → IsAnswer O (act_in phase a) answer
      → IsSteady answer → HasBegun (changed O a phase answer).phase (changed O a phase answer).held
  begun_in a (Requests lock) (Asked word) at begun fits steady = tt
  begun_in a (Requests lock) Seized at begun fits steady =
      let more : AttemptOf O = record a { held = a.held ++ lock ∷ [] } in
      begun_on more (walk_result O more) (not_empty a.held lock)
  begun_in a (Requests lock) (Held holder) at begun fits steady = absurd steady
  begun_in a (Requests lock) (Preferred other) at begun fits steady = absurd steady
  begun_in a (Requests lock) answer at begun fits steady = absurd fits
  begun_in a (Seizes lock expected) Seized at begun fits steady =
      let more : AttemptOf O = record a { held = a.held ++ lock ∷ [] } in
      begun_on more (walk_result O more) (not_empty a.held lock)
  begun_in a (Seizes lock expected) (Held holder) at begun fits steady = absurd steady
  begun_in a (Seizes lock expected) (Preferred other) at begun fits steady = absurd steady
  begun_in a (Seizes lock expected) (Again word) at begun fits steady = absurd steady
  begun_in a (Seizes lock expected) answer at begun fits steady = absurd fits
  begun_in a (Tests word) (Value value) at begun fits steady =
      let more : AttemptOf O = record a { readings = a.readings ++ record { word = word; value = value } ∷ [] } in
      begun_on more (walk_result O more) begun
  begun_in a (Tests word) answer at begun fits steady = absurd fits
  begun_in a Turns (Turn number) at begun fits steady = tt
  begun_in a Turns answer at begun fits steady = absurd fits
  begun_in a (Withdraws lock) answer at begun fits steady = absurd begun
  begun_in a GivesBack answer at begun fits steady = absurd begun
  begun_in a (Operates turn) Done at begun fits steady = begun_operated a turn a.effects at
  begun_in a (Operates turn) answer at begun fits steady = subst (λ (phase : Phase Lock ℕ). HasBegun phase a.held) (sym at) tt

  -- each steady answer counts one more
  count_along : (p : CountedOf O) (answers : List Answer) → HasBegun p.attempt.phase p.attempt.held → AreSteady O p.attempt answers
      → p.count + length answers < 2 ^ 32 → (after_answers O p answers).count ≡ p.count + length answers
  count_along p [] begun steady below = omega arith
  count_along p (answer ∷ answers) begun (fits, steady, later) below =
      let after : AttemptOf O = change O p.attempt answer in
      let still = begun_in p.attempt p.attempt.phase answer refl begun fits steady in
      let one : (after_answer O p answer).count ≡ p.count + 1 =
      counts_on after.phase after.held (counted p.count) still ∙ counted_on p.count (omega (arith, below)) in
      let rest = count_along (after_answer O p answer) answers still later (omega (arith, below, one)) in
      omega (arith, rest, one)

  pub count_is : (job : Job) (answers : List Answer) → AreSteady O (begin O job) answers → length answers < 2 ^ 32
      → (after_answers O (fresh O job) answers).count ≡ length answers
  count_is job [] steady below = refl
  count_is job (Asked word ∷ answers) (fits, steady, later) below =
      let rest = count_along (after_answer O (fresh O job) (Asked word)) answers tt later (omega (arith, below)) in
      omega (arith, rest)
  count_is job (Seized ∷ answers) (fits, steady, later) below =
      let more : AttemptOf O = record (begin O job) { held = O.first job ∷ [] } in
      let after : AttemptOf O = change O (begin O job) Seized in
      let begun : HasBegun after.phase after.held = begun_on more (walk_result O more) (not_empty [] (O.first job)) in
      let one : (after_answer O (fresh O job) Seized).count ≡ 1 = counts_on after.phase after.held (counted 0) begun in
      let rest = count_along (after_answer O (fresh O job) Seized) answers begun later (omega (arith, below, one)) in
      omega (arith, rest, one)
  count_is job (Held holder ∷ answers) (fits, steady, later) below = absurd steady
  count_is job (Preferred other ∷ answers) (fits, steady, later) below = absurd steady
  count_is job (answer ∷ answers) (fits, steady, later) below = absurd fits
