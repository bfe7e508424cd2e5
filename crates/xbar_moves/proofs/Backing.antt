-- a marker that is to begin its job anew withdraws its request and frees what it holds, and then is there
use Rattle.std.proofs.Common.{◌≡◌, ℕ, suc, ◌+◌, Bool, true, false, List, [], ◌∷◌, length, refl, sym, ◌∙◌, ap, subst, arith, Option, Some, None, is_some}
use Rattle.std.proofs.Common.{if◌then◌else◌, slice_get}
use Rattle.turns.specs.Attempt.{act, act_in, change, changed, forgotten, free_act, giving_back, request_in, rest_of, restarted, restarted_in, turn_in}
use Rattle.turns.specs.{Runs.is_finished, World.{Idle, Does}, declared.answer.Answer.Answer}
use Rattle.turns.specs.declared.phase.Phase.TheVariants.{Requests, Seizes, Tests, Turns, Withdraws, GivesBack, Operates}
use Rattle.{xbar_equip.specs.declared.conn.Conn.Conn, xbar_plan.specs.Tables.Tables}
use Rattle.xbar_jobs.specs.{Attempt.{Act, Attempt, Phase, next_step, step_of}, Office.office, declared.{effect.Effect.Effect, program.Step.Step}}
use Rattle.xbar_moves.specs.{AtWork.{answer_to_step, IsBackingAt, IsBackingBy, IsBackingIn, is_turned}, Exchange.{Exchange, Marker, Work, is_idle}}
use Rattle.xbar_moves.specs.{Holding.IsAt, Moves.{backed_as, restarted_at, frees_left, given_at, given_back, given_by, request_count, after_step, steps}}
use Rattle.xbar_moves.proofs.{Jobs.{restarted_job, at_job_has, at_job_is}, StepCases.gone_on, Worlds.{answer_is, found_by}}
use Rattle.turns.specs.Attempt as generic
use Rattle.turns.specs.declared.act.Act.TheVariants as act_is
use Rattle.xbar_jobs.specs.declared.program.Step.TheVariants as steps_are
use Rattle.xbar_moves.specs.declared.event.Given.TheVariants as given
use Rattle.xbar_moves.specs.declared.event.Given.{Given}

-- whether a step withdraws a request or frees a connector
abbrev pub withdraws_or_frees : Step → Bool
withdraws_or_frees (steps_are.Withdraw conn) = true
withdraws_or_frees (steps_are.Free conn) = true
withdraws_or_frees (steps_are.Request conn) = false
withdraws_or_frees (steps_are.Seize conn expected) = false
withdraws_or_frees (steps_are.Test word) = false
withdraws_or_frees steps_are.Turn = false
withdraws_or_frees (steps_are.Close word bits) = false
withdraws_or_frees (steps_are.Open word mask) = false
withdraws_or_frees steps_are.Finished = false

-- what is left to give up
abbrev pub left_in : Attempt → ℕ
left_in a = request_count (request_in a.phase) + length a.held

-- an attempt is on its way back, with one thing less to give up than before
abbrev IsOneLess : Attempt → ℕ → Type 0
IsOneLess b before = IsBackingIn b b.phase × (suc (left_in b) ≡ before)

-- an attempt on its way back is in one of three phases
pub by_backing : (Has : Phase → Type 0) (a : Attempt) → ((conn : Conn) → Has (Withdraws conn)) → (¬ (a.held ≡ []) → Has GivesBack)
    → ((conn : Conn) → a.held ≡ [] → Has (Requests conn)) → (phase : Phase) → IsBackingIn a phase → Has phase
by_backing Has a withdraws gives requests (Withdraws conn) backs = withdraws conn
by_backing Has a withdraws gives requests GivesBack backs = gives backs
by_backing Has a withdraws gives requests (Requests conn) backs = requests conn backs
by_backing Has a withdraws gives requests (Seizes conn expected) backs = absurd backs
by_backing Has a withdraws gives requests (Tests word) backs = absurd backs
by_backing Has a withdraws gives requests Turns backs = absurd backs
by_backing Has a withdraws gives requests (Operates turn) backs = absurd backs

module _ (plan : Tables) where
  freed_less : (a : Attempt) (held : List Conn) → IsOneLess (giving_back (office plan) a held) (suc (length held))
  freed_less a [] = (refl, refl)
  freed_less a (conn ∷ held) = ((λ e. cc), omega arith)

  given_less : (k found : ℕ) (a : Attempt) (held : List Conn) → a.held ≡ held → ¬ (held ≡ [])
      → IsOneLess (changed (office plan) a GivesBack (generic.answer_to (office plan) k (free_act held) found)) (length held)
  given_less k found a [] at not = absurd (not refl)
  given_less k found a (conn ∷ held) at not =
      subst (λ (all : List Conn). IsOneLess (giving_back (office plan) a (rest_of all)) (suc (length held))) (sym at) (freed_less a held)

  abbrev Lessens : ℕ → ℕ → Attempt → Phase → Type 0
  Lessens k found a phase =
      withdraws_or_frees (step_of (act_in phase a))
      ≡ true
      → IsOneLess (changed (office plan) a phase (generic.answer_to (office plan) k (act_in phase a) found)) (request_count (request_in phase) + length a.held)

  less_in : (k found : ℕ) (a : Attempt) (phase : Phase) → IsBackingIn a phase → Lessens k found a phase
  less_in k found a = by_backing (Lessens k found a) a
      (λ conn goes. let less = freed_less a a.held in (less.0, omega (arith, less.1)))
      (λ more goes. let less = given_less k found a a.held refl more in (less.0, omega (arith, less.1)))
      (λ conn none goes. absurd cc)

  -- with each step there is one thing less to give up
  pub one_less : (k : ℕ) (words : List ℕ) (a : Attempt) → IsBackingIn a a.phase → withdraws_or_frees (next_step a) ≡ true
      → IsOneLess (change (office plan) a (answer_to_step k words a)) (left_in a)
  one_less k words a backs goes =
      subst (λ (answer : Answer). IsOneLess (change (office plan) a answer) (left_in a)) (sym (answer_is plan k words a))
      (less_in k (found_by plan words a) a a.phase backs goes)

-- a step that gives up is one
pub gives_up_goes : (next : Act) → withdraws_or_frees (step_of next) ≡ true → is_finished next ≡ false
gives_up_goes act_is.Finished e = absurd cc
gives_up_goes (act_is.Request conn) e = refl
gives_up_goes (act_is.Seize conn expected) e = refl
gives_up_goes (act_is.Withdraw conn) e = refl
gives_up_goes (act_is.Free conn) e = refl
gives_up_goes (act_is.Test word) e = refl
gives_up_goes act_is.Turn e = refl
gives_up_goes (act_is.Make effect) e = refl

pub no_more : (held : List Conn) → length held ≡ 0 → held ≡ []
no_more [] e = refl
no_more (conn ∷ held) e = absurd (omega arith)

-- if the next step gives up nothing, nothing is left to give up
none_freed : (held : List Conn) → ¬ (held ≡ []) → withdraws_or_frees (step_of (free_act held)) ≡ false → ⊥
none_freed [] not e = not refl
none_freed (conn ∷ held) not e = cc

none_left_in : (a : Attempt) (phase : Phase) → IsBackingIn a phase → withdraws_or_frees (step_of (act_in phase a)) ≡ false
    → request_count (request_in phase) + length a.held ≡ 0
none_left_in a = by_backing (λ phase. withdraws_or_frees (step_of (act_in phase a)) ≡ false → request_count (request_in phase) + length a.held ≡ 0) a
    (λ conn rests. absurd cc)
    (λ more rests. absurd (none_freed a.held more rests))
    (λ conn none rests. let size = ap (length {A = Conn}) none in omega (arith, size))

-- marker k is at an attempt on its way back
pub record IsBacking (e : Exchange) (k : ℕ) : Type 0 where
  pub number : ℕ
  pub attempt : Attempt
  pub at : IsAt e k number attempt
  pub backs : IsBackingIn attempt attempt.phase

module _ (e : Exchange) (k : ℕ) where
  pub backing : IsBackingAt (slice_get e.markers k) → IsBacking e k
  backing backs = by (slice_get e.markers k) refl backs where
    by_work : (m : Marker) (work : Work) → slice_get e.markers k ≡ Some m → m.work ≡ work → IsBackingBy work → IsBacking e k
    by_work m Idle there is now = absurd now
    by_work m (Does n a) there is now = record { number = n; attempt = a; at = record { marker = m; there = there; work = is }; backs = now }

    by : (found : Option Marker) → slice_get e.markers k ≡ found → IsBackingAt found → IsBacking e k
    by None there now = absurd now
    by (Some m) there now = by_work m m.work there refl now

  module _ (n : ℕ) (a : Attempt) (at : IsAt e k n a) where
    backing_at : IsBackingIn a a.phase → IsBackingAt (slice_get e.markers k)
    backing_at backs = subst IsBackingAt (sym at.there) (subst IsBackingBy (sym at.work) backs)

    pub left_is : frees_left e k ≡ left_in a
    left_is = at_job_is 0 (λ m i b. left_in b) e k n a at

-- a marker after a step by which it gave up one thing
pub record GaveUp (now : Exchange) (k left : ℕ) : Type 0 where
  pub backs : IsBackingAt (slice_get now.markers k)
  pub one : suc (frees_left now k) ≡ left

module _ (plan : Tables) (e : Exchange) (k : ℕ) (back : IsBacking e k) where
  pub gave_up : withdraws_or_frees (next_step back.attempt) ≡ true → GaveUp (after_step plan k e) k (frees_left e k)
  gave_up goes =
      let n = back.number in
      let a = back.attempt in
      let b = change (office plan) a (answer_to_step k e.words a) in
      let less = one_less plan k e.words a back.backs goes in
      let now = gone_on plan e k n a back.at (gives_up_goes (act a) goes) in
      record { backs = backing_at _ k n b now less.0; one = ap suc (left_is _ k n b now) ∙ less.1 ∙ sym (left_is e k n a back.at) }

  pub none_left : withdraws_or_frees (next_step back.attempt) ≡ false → frees_left e k ≡ 0
  none_left rests = left_is e k back.number back.attempt back.at ∙ none_left_in back.attempt back.attempt.phase back.backs rests

-- with something left, a step gives up one thing
pub goes_with : (a : Attempt) (count : ℕ) → IsBackingIn a a.phase → left_in a ≡ suc count → withdraws_or_frees (next_step a) ≡ true
goes_with a count backs left = by (withdraws_or_frees (next_step a)) refl where
  by : (goes : Bool) → withdraws_or_frees (next_step a) ≡ goes → withdraws_or_frees (next_step a) ≡ true
  by true is = is
  by false rests = let none = none_left_in a a.phase backs rests in absurd (omega (arith, none, left))

pub gives_one : (plan : Tables) (k : ℕ) (e : Exchange) → IsBackingAt (slice_get e.markers k) → (count : ℕ) → frees_left e k ≡ suc count
    → GaveUp (after_step plan k e) k (frees_left e k)
gives_one plan k e backs count left =
    let back = backing e k backs in
    gave_up plan e k back (goes_with back.attempt count back.backs (sym (left_is e k back.number back.attempt back.at) ∙ left))

module _ (plan : Tables) where
  -- a marker that is not past its turn is on its way back once it is to begin anew
  freed_backs : (a : Attempt) (held : List Conn)
      → IsBackingIn (giving_back (office plan) a held) (giving_back (office plan) a held).phase × (left_in (giving_back (office plan) a held) ≡ length held)
  freed_backs a [] = (refl, omega arith)
  freed_backs a (conn ∷ held) = ((λ e. cc), omega arith)

  stays_back : (held : List Conn) → is_finished (free_act {Effect = Effect} held) ≡ false → held ≡ [] → ⊥
  stays_back [] goes none = cc
  stays_back (conn ∷ held) goes none = cc

  pub anew_in : (a : Attempt) (phase : Phase) → a.phase ≡ phase → is_finished (act_in phase a) ≡ false → is_some (turn_in phase) ≡ false
      → let b = restarted_in (office plan) phase a in IsBackingIn b b.phase × (left_in b ≡ request_count (request_in phase) + length a.held)
  anew_in a (Requests conn) at goes is = let back = freed_backs (forgotten a) a.held in (back.0, omega (arith, back.1))
  anew_in a (Seizes conn expected) at goes is = (tt, refl)
  anew_in a (Tests word) at goes is = let back = freed_backs (forgotten a) a.held in (back.0, omega (arith, back.1))
  anew_in a Turns at goes is = let back = freed_backs (forgotten a) a.held in (back.0, omega (arith, back.1))
  anew_in a (Withdraws conn) at goes is = (subst (IsBackingIn a) (sym at) tt, ap (λ (phase : Phase). request_count (request_in phase) + length a.held) at)
  anew_in a GivesBack at goes is =
      (subst (IsBackingIn a) (sym at) (stays_back a.held goes), ap (λ (phase : Phase). request_count (request_in phase) + length a.held) at)
  anew_in a (Operates turn) at goes is = absurd cc

-- what each answer of a marker that is asked to give back says of its work
abbrev pub Answers : Work → Given → Type 0
Answers work given.Given = (is_idle work ≡ false) × (is_turned work ≡ false)
Answers work given.PastTurn = (is_idle work ≡ false) × (is_turned work ≡ true)
Answers work given.Idle = is_idle work ≡ true

pub answers : (work : Work) → Answers work (given_by work)
answers Idle = refl
answers (Does n a) = by (is_finished (act a)) (is_some (turn_in a.phase)) refl refl where
  by : (idle past : Bool) → is_finished (act a) ≡ idle → is_some (turn_in a.phase) ≡ past
      → Answers (Does n a) (if idle then given.Idle else (if past then given.PastTurn else given.Given))
  by true past rests is = rests
  by false true goes is = (goes, is)
  by false false goes is = (goes, is)

-- marker k gives back: something is left of its job, whose turn is still to come
pub record Gives (e : Exchange) (k : ℕ) : Type 0 where
  pub number : ℕ
  pub attempt : Attempt
  pub at : IsAt e k number attempt
  pub told : Answers (Does number attempt) given.Given

module _ (plan : Tables) (e : Exchange) (k : ℕ) where
  pub gives : given_at e k ≡ given.Given → Gives e k
  gives = at_job_has (λ what. what ≡ given.Given → Gives e k) given.Idle (λ m n a. given_by (Does n a)) e k (λ is. absurd cc)
      (λ n a at is. record { number = n; attempt = a; at = at; told = subst (Answers (Does n a)) is (answers (Does n a)) })

  -- if it gives back, it begins anew once all is given up
  pub starts_back : given_at e k ≡ given.Given → IsBackingAt (slice_get (restarted_at plan k e).markers k) × (frees_left (restarted_at plan k e) k ≡ frees_left e k)
  starts_back is =
      let has = gives is in
      let b = restarted (office plan) has.attempt in
      let now = restarted_job plan e k has.number has.attempt has.at in
      let back = anew_in plan has.attempt has.attempt.phase refl has.told.0 has.told.1 in
      (backing_at _ k has.number b now back.0, left_is _ k has.number b now ∙ back.1 ∙ sym (left_is e k has.number has.attempt has.at))

  pub back_goes : given_at e k ≡ given.Given → given_back plan k e ≡ steps plan k (frees_left e k) (restarted_at plan k e)
  unfolding given_back
  back_goes is = ap (λ (what : Given). backed_as what (steps plan k (frees_left e k) (restarted_at plan k e)) e) is

  -- if a marker does not give back, nothing changes
  pub back_rests : ¬ (given_at e k ≡ given.Given) → given_back plan k e ≡ e
  unfolding given_back
  back_rests not = by (given_at e k) not where
    by : (what : Given) → ¬ (what ≡ given.Given) → backed_as what (steps plan k (frees_left e k) (restarted_at plan k e)) e ≡ e
    by given.Given other = absurd (other refl)
    by given.PastTurn other = refl
    by given.Idle other = refl
