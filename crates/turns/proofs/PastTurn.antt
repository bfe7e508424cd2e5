-- a job past its turn comes to its end, whatever moves are made in between its steps
use Rattle.std.proofs.Common.{◌≡◌, ◌≢◌, ℕ, suc, ◌+◌, ◌≤◌, ◌⊎◌, Bool, true, false, List, [], ◌∷◌, length, slice_index, inl, inr, refl, sym, ◌∙◌, ap, subst}
use Rattle.std.proofs.Common.{arith, if◌then◌else◌, eqb-true, eq-eqb}
use Rattle.{std.proofs.lemmas.List.Sums.sum_by-cons, turns.specs.{System.System, Attempt.{AttemptOf, act, act_in, answer_to, begin, changed, closing_act}}}
use Rattle.turns.specs.{Attempt.{next, operated, rest_of, restarted, restarted_in}, World.{World, ActorOf, Idle, Does, assigned, place}}
use Rattle.turns.specs.Runs.{Move, Assigns, Steps, Restarts, is_finished, is_available, assigned_at, stepped_at, restarted_at, after_move}
use Rattle.turns.specs.{Ending.{ComesToEnd, is_step_of, own_steps}, declared.phase.Phase.{Phase, TheVariants.Operates}}
use Rattle.turns.proofs.{Lists.{one_or_two, set_here, set_else}, Runs.rest_is, Settings.does_one}
use mathlib.Core.Option.{Option, some, none, some-injective}
use lib.ListN.{get_elem?}

-- one if it is so, otherwise zero
abbrev one_if : Bool → ℕ
one_if b = if b then 1 else 0

module _ (O : System) where
  open O use {Lock, Job, Effect}

  -- an attempt past this turn at this job, with one effect or lock less left than `count`
  record HasLess (turn : ℕ) (job : Job) (count : ℕ) (a : AttemptOf O) : Type 0 where
    pub phase : a.phase ≡ Operates turn
    pub job_is : a.job ≡ job
    pub one : suc (length a.effects + length a.held) ≡ count

  closing_less : (k found turn : ℕ) (a : AttemptOf O) (effects : List Effect) (held : List Lock)
      → a.phase ≡ Operates turn → a.effects ≡ effects → a.held ≡ held
      → is_finished (closing_act effects held) ≡ false
      → HasLess turn a.job (length effects + length held)
      (changed O a (Operates turn) (answer_to O k (closing_act effects held) found))
  closing_less k found turn a [] [] at these those goes = absurd cc
  closing_less k found turn a [] (lock ∷ held) at these those goes =
      let none : length a.effects ≡ 0 = ap (length {A = Effect}) these in
      let rest : length (rest_of a.held) ≡ length held =
      ap (λ (all : List Lock). length (rest_of all)) those in
      let left = suc (length held) in
      subst (λ (all : List Effect). HasLess turn a.job (0 + left) (operated a all)) (sym these)
      (record { phase = at; job_is = refl; one = omega (arith, none, rest) })
  closing_less k found turn a (effect ∷ effects) held at these those goes =
      let same : length a.held ≡ length held = ap (length {A = Lock}) those in
      let left = suc (length effects) + length held in
      subst (λ (all : List Effect). HasLess turn a.job left (operated a all)) (sym these)
      (record { phase = at; job_is = refl; one = omega (arith, same) })

  -- its next step makes or frees one
  next_less : (k found turn : ℕ) (a : AttemptOf O) → a.phase ≡ Operates turn
      → is_finished (act a) ≡ false
      → HasLess turn a.job (length a.effects + length a.held) (next O k a found)
  next_less k found turn a at goes =
      let left = length a.effects + length a.held in
      let acts = subst (λ (phase : Phase Lock ℕ). is_finished (act_in phase a) ≡ false) at goes in
      subst (λ (phase : Phase Lock ℕ).
      HasLess turn a.job left (changed O a phase (answer_to O k (act_in phase a) found)))
      (sym at)
      (closing_less k found turn a a.effects a.held at refl refl acts)

  module _ (w : World O) (k number turn : ℕ) (a : AttemptOf O)
      (there : get_elem? w.actors k ≡ some (Does number a)) (at : a.phase ≡ Operates turn)
      (goes : is_finished (act a) ≡ false) where
    abbrev IsSame : World O → Type 0
    IsSame after = get_elem? after.actors k ≡ some (Does number a)

    same_actor : (j : ℕ) (m : ActorOf O) → k ≡ j → get_elem? w.actors j ≡ some m
        → m ≡ Does number a
    same_actor j m one here =
        let found = ap (λ (x : ℕ). get_elem? w.actors x) (sym one) in
        some-injective m (Does number a) (sym here ∙ found ∙ there)

    -- actor k is not available, so it is assigned nothing
    assigned_same : (j i : ℕ) (job : Job) (found : Option (ActorOf O))
        → get_elem? w.actors j ≡ found → IsSame (assigned_at O j i job found w)
    assigned_same j i job none here = there
    assigned_same j i job (some m) here = by (is_available O m) refl (one_or_two k j) where
      by : (free : Bool) → is_available O m ≡ free → (k ≡ j) ⊎ (k ≢ j)
          → IsSame (if free then assigned O j i job w else w)
      by false is any = there
      by true is (inr two) = set_else w.actors j k (Does i (begin O job)) two ∙ there
      by true is (inl one) =
          let same = same_actor j m one here in
          let both : ◌≡◌ {A = Bool} true false = sym is ∙ ap (is_available O) same ∙ goes in
          absurd cc

    stepped_same : (j : ℕ) (found : Option (ActorOf O)) → k ≢ j → IsSame (stepped_at O j found w)
    stepped_same j none two = there
    stepped_same j (some Idle) two = there
    stepped_same j (some (Does i b)) two = set_else w.actors j k _ two ∙ there

    -- past the turn giving back changes nothing
    restarted_same : restarted O a ≡ a
    restarted_same = ap (λ (phase : Phase Lock ℕ). restarted_in O phase a) at

    given_same : (i : ℕ) (b : AttemptOf O) → ◌≡◌ {A = ActorOf O} (Does i b) (Does number a)
        → ◌≡◌ {A = ActorOf O} (Does i (restarted O b)) (Does number a)
    given_same i b same =
        let one = does_one i number b a same in
        let back : restarted O b ≡ b = ap (restarted O) one ∙ restarted_same ∙ sym one in
        subst (λ (x : AttemptOf O). ◌≡◌ {A = ActorOf O} (Does i x) (Does number a)) (sym back) same

    backed_same : (j : ℕ) (found : Option (ActorOf O)) → get_elem? w.actors j ≡ found
        → IsSame (restarted_at O j found w)
    backed_same j none here = there
    backed_same j (some Idle) here = there
    backed_same j (some (Does i b)) here = by (one_or_two k j) where
      by : (k ≡ j) ⊎ (k ≢ j) → IsSame (restarted_at O j (some (Does i b)) w)
      by (inr two) = set_else w.actors j k (Does i (restarted O b)) two ∙ there
      by (inl one) =
          let after = restarted_at O j (some (Does i b)) w in
          ap (λ (x : ℕ). get_elem? after.actors x) one ∙
          set_here w.actors j (Does i (restarted O b)) (Does i b) here ∙
          ap some (given_same i b (same_actor j (Does i b) one here))

    -- what is no step of its own leaves it as it is
    others_same : (move : Move Job) → is_step_of k move ≡ false → IsSame (after_move O w move)
    others_same (Assigns j i job) other = assigned_same j i job (get_elem? w.actors j) refl
    others_same (Steps j) other = stepped_same j (get_elem? w.actors j) (λ one.
        let both : ◌≡◌ {A = Bool} true false = sym (eq-eqb j k (sym one)) ∙ other in
        absurd cc)
    others_same (Restarts j) other = backed_same j (get_elem? w.actors j) refl

    -- its own step is its next
    abbrev after : AttemptOf O
    after = next O k a (slice_index w.words (place O (act a)))

    own_next : (move : Move Job) → is_step_of k move ≡ true
        → get_elem? (after_move O w move).actors k ≡ some (Does number after)
    own_next (Assigns j i job) own = absurd cc
    own_next (Restarts j) own = absurd cc
    own_next (Steps j) own =
        let one : j ≡ k = eqb-true j k own in
        ap (λ (x : ℕ). get_elem? (after_move O w (Steps x)).actors k) one ∙
        ap (λ found. get_elem? (stepped_at O k found w).actors k) there ∙
        set_here w.actors k (Does number after) (Does number a) there

  -- actor k is past this turn at this job, with at most `most` effects and locks left
  record IsPast (w : World O) (k number turn : ℕ) (job : Job) (most : ℕ) : Type 0 where
    pub attempt : AttemptOf O
    pub there : get_elem? w.actors k ≡ some (Does number attempt)
    pub phase : attempt.phase ≡ Operates turn
    pub job_is : attempt.job ≡ job
    pub few : length attempt.effects + length attempt.held ≤ most

  module _ (k number turn : ℕ) (job : Job) where
    -- after any move it still is, and has one less after its own step
    past_on : (w : World O) (move : Move Job) (enough most : ℕ)
        (past : IsPast w k number turn job enough) → is_finished (act past.attempt) ≡ false
        → enough ≡ one_if (is_step_of k move) + most
        → IsPast (after_move O w move) k number turn job most
    past_on w move enough most past goes counted = by (is_step_of k move) refl counted where
      a : AttemptOf O
      a = past.attempt

      by : (own : Bool) → is_step_of k move ≡ own → enough ≡ one_if own + most
          → IsPast (after_move O w move) k number turn job most
      by true own more =
          let found = slice_index w.words (place O (act a)) in
          let less = next_less k found turn a past.phase goes in
          record {
            attempt = next O k a found;
            there = own_next w k number turn a past.there past.phase goes move own;
            phase = less.phase;
            job_is = less.job_is ∙ past.job_is;
            few = omega (arith, less.one, past.few, more);
          }
      by false other same = record {
        attempt = a;
        there = others_same w k number turn a past.there past.phase goes move other;
        phase = past.phase;
        job_is = past.job_is;
        few = omega (arith, past.few, same);
      }

    -- with nothing left it has come to its end
    ends_now : (w : World O) (moves : List (Move Job)) (most : ℕ)
        (past : IsPast w k number turn job most) → is_finished (act past.attempt) ≡ true
        → ComesToEnd O w moves k number turn job
    ends_now w moves most past rests = record {
      before = [];
      later = moves;
      split = refl;
      ended = past.attempt;
      there = past.there;
      phase = past.phase;
      job_is = past.job_is;
      rests = rest_is (act past.attempt) rests;
    }

    ends_later : (w : World O) (move : Move Job) (moves : List (Move Job))
        → ComesToEnd O (after_move O w move) moves k number turn job
        → ComesToEnd O w (move ∷ moves) k number turn job
    ends_later w move moves end = record {
      before = move ∷ end.before;
      later = end.later;
      split = ap (λ (rest : List (Move Job)). move ∷ rest) end.split;
      ended = end.ended;
      there = end.there;
      phase = end.phase;
      job_is = end.job_is;
      rests = end.rests;
    }

    comes_to_end : (moves : List (Move Job)) (w : World O)
        → IsPast w k number turn job (own_steps k moves) → ComesToEnd O w moves k number turn job
    comes_to_end [] w past = by (is_finished (act past.attempt)) refl where
      by : (rests : Bool) → is_finished (act past.attempt) ≡ rests → ComesToEnd O w [] k number turn job
      by true rests = ends_now w [] 0 past rests
      by false goes =
          let less = next_less k 0 turn past.attempt past.phase goes in
          absurd (omega (arith, less.one, past.few))
    comes_to_end (move ∷ moves) w past =
        by (is_finished (act past.attempt)) refl (λ on. comes_to_end moves (after_move O w move) on) where
          by : (rests : Bool) → is_finished (act past.attempt) ≡ rests
              → (IsPast (after_move O w move) k number turn job (own_steps k moves)
              → ComesToEnd O (after_move O w move) moves k number turn job)
              → ComesToEnd O w (move ∷ moves) k number turn job
          by true rests later = ends_now w (move ∷ moves) (own_steps k (move ∷ moves)) past rests
          by false goes later =
              let enough = own_steps k (move ∷ moves) in
              let most = own_steps k moves in
              let counted : enough ≡ one_if (is_step_of k move) + most =
              sum_by-cons (λ (one : Move Job). one_if (is_step_of k one)) move moves in
              ends_later w move moves (later (past_on w move enough most past goes counted))

  pub past_ends : (w : World O) (k number turn : ℕ) (a : AttemptOf O) (moves : List (Move Job))
      → get_elem? w.actors k ≡ some (Does number a) → a.phase ≡ Operates turn
      → length a.effects + length a.held ≤ own_steps k moves
      → ComesToEnd O w moves k number turn a.job
  past_ends w k number turn a moves there at few =
      let past : IsPast w k number turn a.job (own_steps k moves) =
      record { attempt = a; there = there; phase = at; job_is = refl; few = few } in
      comes_to_end k number turn a.job moves w past
