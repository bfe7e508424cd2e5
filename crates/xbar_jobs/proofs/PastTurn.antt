-- steps past the turn: an effect is made, or what is held first is freed
use Rattle.std.proofs.Common.{◌≡◌, ℕ, suc, ◌+◌, ◌<◌, ◌^◌, true, false, List, [], ◌∷◌, length, refl, sym, ◌∙◌, ap, subst, arith, is_some, slice_index, slice_set}
use Rattle.turns.specs.{Attempt.{IsAnswerTo, act, act_in, answer_to, change, changed, closing_act, operated, turn_in}, Operations.applied, Runs.is_finished}
use Rattle.turns.specs.{World.{becomes, place}, declared.{answer.Answer.{Answer, TheVariants.Done}, operation.Operation.Operation}}
use Rattle.turns.specs.declared.phase.Phase.TheVariants.{Requests, Seizes, Tests, Turns, Withdraws, GivesBack, Operates}
use Rattle.attempts.{specs.{Counting.{count_in, counted_by}, WalkOnWords.{IsNoTurn, LeadsTo, Moment, stepped, answer_at}}, proofs.LeadsOn.leads_then}
use Rattle.{xbar_equip.specs.{Word.word_count, declared.conn.Conn.Conn}, xbar_plan.specs.Tables.Tables}
use Rattle.xbar_jobs.specs.{Attempt.{Act, Attempt, Counted, Phase, counted, next_step}, Counting.after_answer, Office.office, OnWords.{answer_of, words_after}}
use Rattle.xbar_jobs.{specs.{Running.RunsOut, Standing.IsValid, declared.effect.Effect.Effect}, proofs.StepActs.{act_answer, act_operation, act_word}}
use Rattle.xbar_jobs.specs.OnWords as made

-- the phase past the turn
turned_at : (phase : Phase) → is_some (turn_in phase) ≡ true → (turn : ℕ) × (phase ≡ Operates turn)
turned_at (Operates turn) past = (turn, refl)
turned_at (Requests conn) past = absurd cc
turned_at (Seizes conn expected) past = absurd cc
turned_at (Tests word) past = absurd cc
turned_at Turns past = absurd cc
turned_at (Withdraws conn) past = absurd cc
turned_at GivesBack past = absurd cc

-- one step more is counted
count_more : (made count : ℕ) → count < 2 ^ 32 → counted (counted_by made count) ≡ counted_by (made + 1) count
count_more made count fits = grind (arith, fits)

operated_phase : (a : Attempt) (effects : List Effect) → (operated a effects).phase ≡ a.phase
operated_phase a [] = refl
operated_phase a (effect ∷ effects) = refl

module _ (plan : Tables) (marker : ℕ) where
  -- a step's answer, and the words after it, as the law has them
  pub answer_led : (a : Attempt) (words : List ℕ)
      → answer_of marker (next_step a) words ≡ answer_at (office plan) marker (record { attempt = a; words = words })
  answer_led a words =
      ap (λ (n : ℕ). made.step_answer marker (next_step a) (slice_index words n)) (act_word plan (act a))
      ∙ act_answer plan marker (act a) (slice_index words (place (office plan) (act a)))

  pub words_led : (a : Attempt) (words : List ℕ)
      → words_after marker (next_step a) words
      ≡ slice_set words (place (office plan) (act a)) (becomes (office plan) marker (act a) (slice_index words (place (office plan) (act a))))
  words_led a words =
      ap (λ (n : ℕ). slice_set words n (applied (made.operation marker (next_step a)) (slice_index words n))) (act_word plan (act a))
      ∙ ap (λ (o : Operation). slice_set words (place (office plan) (act a)) (applied o (slice_index words (place (office plan) (act a)))))
      (act_operation plan marker (act a))

  -- what is left past the turn is no turn, and is answered so
  record IsClosing (one : Act) : Type 0 where
    goes : IsNoTurn (office plan) one
    done : (found : ℕ) → answer_to (office plan) marker one found ≡ Done
    answers : IsAnswerTo one Done

  closing : (effects : List Effect) (held : List Conn) → is_finished (closing_act effects held) ≡ false → IsClosing (closing_act effects held)
  closing [] [] goes = absurd cc
  closing [] (conn ∷ held) goes = record { goes = tt; done = λ found. refl; answers = tt }
  closing (effect ∷ effects) held goes = record { goes = tt; done = λ found. refl; answers = tt }

  closes : (a : Attempt) → is_some (turn_in a.phase) ≡ true → is_finished (act a) ≡ false → IsClosing (act a)
  closes a past goes =
      let is : act a ≡ closing_act a.effects a.held = ap (λ (phase : Phase). act_in phase a) (turned_at a.phase past).1 in
      subst IsClosing (sym is) (closing a.effects a.held (sym (ap is_finished is) ∙ goes))

  -- it stays past its turn
  phase_stays : (a : Attempt) (answer : Answer) → is_some (turn_in a.phase) ≡ true → answer ≡ Done → (change (office plan) a answer).phase ≡ a.phase
  phase_stays a answer past is =
      ap (λ (told : Answer). (change (office plan) a told).phase) is
      ∙ ap (λ (phase : Phase). (changed (office plan) a phase Done).phase) (turned_at a.phase past).1
      ∙ operated_phase a a.effects

  counts_past : (phase : Phase) (held : List Conn) (count : ℕ) → is_some (turn_in phase) ≡ true → count_in phase held count ≡ count
  counts_past phase held count past = ap (λ (phase : Phase). count_in phase held count) (turned_at phase past).1

  -- steps past the turn, from the first on
  pub closed_none : (most : ℕ) (p : Counted) (words : List ℕ) → p.count < 2 ^ 32 → IsValid plan p.attempt → is_some (turn_in p.attempt.phase) ≡ true
      → length words ≡ word_count → RunsOut plan marker most 0 p words p words
  unfolding LeadsTo
  closed_none most p words fits valid turned whole = record {
    runs = record { fits = omega arith; steps = refl; count = omega (arith, fits); valid = valid };
    turned = turned;
    whole = whole;
  }

  pub closed_more : (most made : ℕ) (first now next : Counted) (words between after : List ℕ) (answer : Answer)
      → RunsOut plan marker most made first words now between → made < most → first.count < 2 ^ 32 → is_finished (act now.attempt) ≡ false
      → answer ≡ answer_of marker (next_step now.attempt) between → next ≡ after_answer plan now answer
      → after ≡ words_after marker (next_step now.attempt) between → IsValid plan next.attempt → length after ≡ length between
      → RunsOut plan marker most (made + 1) first words next after
  closed_more most made first now next words between after answer so_far below few goes answered comes makes valid same = record {
    runs = record {
      fits = omega (arith, below);
      steps =
          subst (λ (n : ℕ). LeadsTo (office plan) marker n start (record { attempt = next.attempt; words = after })) one_more
          (subst (LeadsTo (office plan) marker (suc made) start) (sym is_stepped)
          (leads_then (office plan) marker made start here so_far.runs.steps closing_now.goes
          (subst (IsAnswerTo (act now.attempt)) (sym told_done) closing_now.answers)));
      count =
          ap (λ (p : Counted). p.count) comes
          ∙ counts_past (change (office plan) now.attempt answer).phase (change (office plan) now.attempt answer).held (counted now.count) past
          ∙ ap counted so_far.runs.count ∙ count_more made first.count few;
      valid = valid;
    };
    turned = subst (λ (p : Counted). is_some (turn_in p.attempt.phase) ≡ true) (sym comes) past;
    whole = same ∙ so_far.whole;
  } where
    one_more : suc made ≡ made + 1
    one_more = omega arith

    start : Moment (office plan)
    start = record { attempt = first.attempt; words = words }

    here : Moment (office plan)
    here = record { attempt = now.attempt; words = between }

    closing_now : IsClosing (act now.attempt)
    closing_now = closes now.attempt so_far.turned goes

    told_done : answer_at (office plan) marker here ≡ Done
    told_done = closing_now.done (slice_index between (place (office plan) (act now.attempt)))

    answer_is : answer ≡ answer_at (office plan) marker here
    answer_is = answered ∙ answer_led now.attempt between

    past : is_some (turn_in (change (office plan) now.attempt answer).phase) ≡ true
    past =
        subst (λ (phase : Phase). is_some (turn_in phase) ≡ true) (sym (phase_stays now.attempt answer so_far.turned (answer_is ∙ told_done))) so_far.turned

    is_stepped : record { attempt = next.attempt; words = after } ≡ stepped (office plan) marker here
    is_stepped =
        let attempt_is = ap (λ (p : Counted). p.attempt) comes ∙ ap (change (office plan) now.attempt) answer_is in
        let all = makes ∙ words_led now.attempt between in
        λ i. record { attempt = attempt_is i; words = all i }
