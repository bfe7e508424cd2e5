-- a job past its turn comes to its end by the steps of its marker, whatever other moves come in between
use Rattle.std.proofs.Common.{◌≡◌, ◌≢◌, ℕ, ◌+◌, ◌-◌, ◌≤◌, ◌⊎◌, Bool, true, false, List, [], ◌∷◌, length, inl, inr, refl, sym, ◌∙◌, ap, subst, arith, ◌==◌, cond}
use Rattle.std.proofs.Common.{Option, Some, None, slice_get, eqb-true}
use Rattle.{std.proofs.lemmas.List.Sums.sum_by-cons, turns.specs.Attempt.{act, act_in, change, changed, closing_act, operated, restarted, restarted_in}}
use Rattle.turns.specs.{declared.{act.Act.TheVariants.{Free, Finished}, answer.Answer.TheVariants.Done, phase.Phase.TheVariants.Operates}, Runs.is_finished}
use Rattle.{turns.{specs.World.Does, proofs.{Lists.one_or_two, Runs.rest_is}}, xbar_equip.specs.declared.conn.Conn.Conn, xbar_plan.specs.Tables.Tables}
use Rattle.{xbar_office.specs.declared.job.Job.Job, xbar_jobs.specs.{Attempt.{Act, Attempt, Phase}, Office.office, declared.effect.Effect.Effect}}
use Rattle.xbar_moves.specs.{AtWork.answer_to_step, Exchange.{Exchange, is_idle}, Holding.IsAt, Moves.{assigned, refusal, after_step, with_work}}
use Rattle.xbar_moves.specs.{Runs.{Assigns, Restarts, GivesBack, Move, Settles, Steps, after_move, unless_refused}, declared.kinds.AssignFault.AssignFault}
use Rattle.xbar_moves.proofs.{Keeping.{KeepsRestarts, KeepsSteps, back_keeps, restarts_keep, settled_keeps}, Jobs.{assigned_is, one_job, set_at, work_at}}
use Rattle.xbar_moves.proofs.{Markers.marker_else, ReleaseTurns.makes_one, StepCases.{gone_on, step_else}, Stepping.step_idle}
use Rattle.{xbar_moves.proofs.Worlds.{answer_is, found_by, taken}, xbar_core.specs.Ends.{ComesToEnd, is_step_of, own_steps}}
use Rattle.turns.specs.Attempt as generic

module _ (plan : Tables) (e : Exchange) (k number turn : ℕ) (a : Attempt) (conn : Conn) (held : List Conn) (at : IsAt e k number a)
    (past : a.phase ≡ Operates turn) (none : a.effects ≡ []) (first : a.held ≡ conn ∷ held) where
  -- past its turn, with no effect left, the next step frees the first connector
  frees_first : act a ≡ Free conn
  frees_first =
      ap (λ (phase : Phase). act_in phase a) past
      ∙ (λ i. closing_act (none i) (first i))

  others_held : change (office plan) a (answer_to_step k e.words a) ≡ record a { held = held }
  others_held =
      ap (change (office plan) a) (answer_is plan k e.words a
      ∙ ap (λ (next : Act). generic.answer_to (office plan) k next (found_by plan e.words a)) frees_first)
      ∙ ap (λ (phase : Phase). changed (office plan) a phase Done) past
      ∙ ap (operated a) none
      ∙ ap (λ (all : List Conn). record a { held = generic.rest_of all }) first

  -- and then it holds the others
  frees_one : IsAt (after_step plan k e) k number (record a { held = held })
  frees_one = subst (IsAt (after_step plan k e) k number) others_held (gone_on plan e k number a at (ap (λ (next : Act). is_finished next) frees_first))

-- with nothing left, an attempt past its turn is at rest
none_rests : (effects : List Effect) (held : List Conn) → length effects + length held ≤ 0 → closing_act effects held ≡ Finished
none_rests [] [] few = refl
none_rests [] (conn ∷ held) few = absurd (omega arith)
none_rests (effect ∷ effects) held few = absurd (omega arith)

module _ (plan : Tables) (k number turn : ℕ) (job : Job) where
  -- marker k is past its turn at this job, with at most `left` effects and connectors left
  record HasLeft (left : ℕ) (e : Exchange) : Type 0 where
    pub attempt : Attempt
    pub at : IsAt e k number attempt
    pub past : attempt.phase ≡ Operates turn
    pub job_is : attempt.job ≡ job
    pub few : length attempt.effects + length attempt.held ≤ left

  more_left : (left more : ℕ) (e : Exchange) → left ≤ more → HasLeft left e → HasLeft more e
  more_left left more e fits has = let few = has.few in
      record { attempt = has.attempt; at = has.at; past = has.past; job_is = has.job_is; few = omega (arith, few) }

  -- a marker that stays has as much left
  same_left : (left : ℕ) (e x : Exchange) → slice_get x.markers k ≡ slice_get e.markers k → HasLeft left e → HasLeft left x
  same_left left e x same has = record {
    attempt = has.attempt;
    at = record { marker = has.at.marker; there = same ∙ has.at.there; work = has.at.work };
    past = has.past;
    job_is = has.job_is;
    few = has.few;
  }

  -- with a step of it there is one thing less
  module _ (left : ℕ) (e : Exchange) (has : HasLeft left e) where
    abbrev a : Attempt
    a = has.attempt

    less_by : (effects : List Effect) (held : List Conn) → a.effects ≡ effects → a.held ≡ held → HasLeft (left - 1) (after_step plan k e)
    less_by [] [] these those =
        let none : length a.effects ≡ 0 = ap (length {A = Effect}) these in
        let bare : length a.held ≡ 0 = ap (length {A = Conn}) those in
        let rests : act a ≡ Finished = ap (λ (phase : Phase). act_in phase a) has.past ∙ (λ i. closing_act (these i) (those i)) in
        subst (HasLeft (left - 1)) (sym (step_idle plan e k has.at.marker has.at.there (ap is_idle has.at.work ∙ ap (λ (next : Act). is_finished next) rests)))
        (record { attempt = a; at = has.at; past = has.past; job_is = has.job_is; few = omega (arith, none, bare) })
    less_by [] (conn ∷ held) these those =
        let none : length a.effects ≡ 0 = ap (length {A = Effect}) these in
        let all : length a.held ≡ length (conn ∷ held) = ap (length {A = Conn}) those in
        let few = has.few in
        record {
          attempt = record a { held = held };
          at = frees_one plan e k number turn a conn held has.at has.past these those;
          past = has.past;
          job_is = has.job_is;
          few = omega (arith, none, all, few);
        }
    less_by (effect ∷ effects) held these those =
        let all : length a.effects ≡ length (effect ∷ effects) = ap (length {A = Effect}) these in
        let few = has.few in
        record {
          attempt = record a { effects = effects };
          at = (makes_one plan e k number turn a effect effects has.at has.past these).1;
          past = has.past;
          job_is = has.job_is;
          few = omega (arith, all, few);
        }

    step_less : HasLeft (left - 1) (after_step plan k e)
    step_less = less_by a.effects a.held refl refl

  -- with a step of any marker there is no more
  step_keeps : (left j : ℕ) → KeepsSteps plan (HasLeft left) j
  step_keeps left j e has = by (one_or_two k j) where
    by : (k ≡ j) ⊎ (k ≢ j) → HasLeft left (after_step plan j e)
    by (inl one) =
        subst (λ (i : ℕ). HasLeft left (after_step plan i e)) one (more_left (left - 1) left (after_step plan k e) (omega arith) (step_less left e has))
    by (inr two) = same_left left e (after_step plan j e) (step_else plan e j k two) has

  -- and to begin anew changes nothing past the turn
  restart_keeps : (left j : ℕ) → KeepsRestarts plan (HasLeft left) j
  restart_keeps left j e n b has there = by (one_or_two k j) where
    after : Exchange
    after = with_work j there.marker (Does n (restarted (office plan) b)) e

    stays : b.phase ≡ Operates turn → restarted (office plan) b ≡ b
    stays past = ap (λ (phase : Phase). restarted_in (office plan) phase b) past

    by : (k ≡ j) ⊎ (k ≢ j) → HasLeft left after
    by (inl one) =
        let same = one_job e k number n has.attempt b has.at (subst (λ (i : ℕ). IsAt e i n b) (sym one) there) in
        let past : b.phase ≡ Operates turn = ap (λ (c : Attempt). c.phase) (sym same.1) ∙ has.past in
        record {
          attempt = has.attempt;
          at =
              subst (λ (i : ℕ). IsAt after i number has.attempt) (sym one)
              (subst (λ (i : ℕ). IsAt after j i has.attempt) (sym same.0)
              (subst (IsAt after j n) (stays past ∙ sym same.1) (set_at e j n there.marker (restarted (office plan) b) there.there)));
          past = has.past;
          job_is = has.job_is;
          few = has.few;
        }
    by (inr two) = same_left left e after (marker_else e.markers j k _ two) has

  -- no job is assigned to a marker that has something left
  assigned_keeps : (left : ℕ) (e : Exchange) (j n : ℕ) (new : Job) (has : HasLeft left e) → is_finished (act has.attempt) ≡ false → (why : Option AssignFault)
      → refusal e j new ≡ why → HasLeft left (unless_refused why (assigned j n new e) e)
  assigned_keeps left e j n new has goes (Some fault) refused = has
  assigned_keeps left e j n new has goes None free = by (one_or_two k j) where
    busy : refusal e k new ≡ None → ⊥
    busy gets =
        let to = taken e k new gets in
        let both : ◌≡◌ {A = Bool} true false = sym to.idle ∙ ap is_idle (work_at e k number has.attempt to.marker has.at to.there) ∙ goes in cc

    other : k ≢ j → slice_get (assigned j n new e).markers k ≡ slice_get e.markers k
    other two = let to = taken e j new free in
        ap (λ (x : Exchange). slice_get x.markers k) (assigned_is e j to.marker to.there n new) ∙ marker_else e.markers j k _ two

    by : (k ≡ j) ⊎ (k ≢ j) → HasLeft left (assigned j n new e)
    by (inl one) = absurd (busy (ap (λ (i : ℕ). refusal e i new) one ∙ free))
    by (inr two) = same_left left e (assigned j n new e) (other two) has

  -- by a step of it there is one thing less, and by any other move no more
  move_less : (left rest : ℕ) (e : Exchange) (move : Move) (has : HasLeft left e) → is_finished (act has.attempt) ≡ false
      → left ≤ cond (is_step_of k move) 1 0 + rest → HasLeft rest (after_move plan e move)
  move_less left rest e (Assigns j n new) has goes few = more_left left rest _ (omega arith) (assigned_keeps left e j n new has goes (refusal e j new) refl)
  move_less left rest e (Steps j) has goes few = by (j == k) refl few where
    by : (own : Bool) → (j == k) ≡ own → left ≤ cond own 1 0 + rest → HasLeft rest (after_step plan j e)
    by true own below =
        subst (λ (i : ℕ). HasLeft rest (after_step plan i e)) (sym (eqb-true j k own))
        (more_left (left - 1) rest (after_step plan k e) (omega arith) (step_less left e has))
    by false other below = more_left left rest (after_step plan j e) (omega arith) (step_keeps left j e has)
  move_less left rest e (Restarts j) has goes few = more_left left rest _ (omega arith) (restarts_keep plan (HasLeft left) j (restart_keeps left j) e has)
  move_less left rest e (GivesBack j) has goes few =
      more_left left rest _ (omega arith) (back_keeps plan (HasLeft left) j (step_keeps left j) (restart_keeps left j) e has)
  move_less left rest e Settles has goes few =
      more_left left rest _ (omega arith) (settled_keeps plan (HasLeft left) (step_keeps left) (restart_keeps left) e has)

  -- with no more left than its steps to come, it comes to its end
  ended_now : (left : ℕ) (e : Exchange) (moves : List Move) (has : HasLeft left e) → act has.attempt ≡ Finished → ComesToEnd plan e moves k number turn job
  ended_now left e moves has rests =
      record { before = []; later = moves; split = refl; ended = has.attempt; there = has.at; phase = has.past; job_is = has.job_is; rests = rests }

  comes_to_end : (left : ℕ) (e : Exchange) (moves : List Move) → HasLeft left e → left ≤ own_steps k moves → ComesToEnd plan e moves k number turn job
  comes_to_end left e [] has few =
      let none = has.few in
      ended_now left e [] has (ap (λ (phase : Phase). act_in phase has.attempt) has.past
      ∙ none_rests has.attempt.effects has.attempt.held (omega (arith, none, few)))
  comes_to_end left e (move ∷ moves) has few =
      let more = sum_by-cons (λ (m : Move). cond (is_step_of k m) 1 0) move moves in
      by (is_finished (act has.attempt)) refl
      (λ goes. comes_to_end (own_steps k moves) (after_move plan e move) moves (move_less left (own_steps k moves) e move has goes (omega (arith, more, few)))
      (omega arith)) where
        later : ComesToEnd plan (after_move plan e move) moves k number turn job → ComesToEnd plan e (move ∷ moves) k number turn job
        later end = record {
          before = move ∷ end.before;
          later = end.later;
          split = ap (λ (all : List Move). move ∷ all) end.split;
          ended = end.ended;
          there = end.there;
          phase = end.phase;
          job_is = end.job_is;
          rests = end.rests;
        }

        by : (rest : Bool) → is_finished (act has.attempt) ≡ rest
            → (is_finished (act has.attempt) ≡ false → ComesToEnd plan (after_move plan e move) moves k number turn job)
            → ComesToEnd plan e (move ∷ moves) k number turn job
        by true rests end = ended_now left e (move ∷ moves) has (rest_is (act has.attempt) rests)
        by false goes end = later (end goes)

-- a job past its turn comes to its end within as many steps of its marker as it has effects and connectors left
pub past_turn_ends : (plan : Tables) (e : Exchange) (moves : List Move) (k number turn : ℕ) (a : Attempt) → IsAt e k number a → a.phase ≡ Operates turn
    → length a.effects + length a.held ≤ own_steps k moves → ComesToEnd plan e moves k number turn a.job
past_turn_ends plan e moves k number turn a at past few =
    comes_to_end plan k number turn a.job (length a.effects + length a.held) e moves
    (record { attempt = a; at = at; past = past; job_is = refl; few = omega arith }) few
