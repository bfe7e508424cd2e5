-- what a marker that gives back changes, and what it leaves as it was
use Rattle.std.proofs.Common.{◌≡◌, ◌≢◌, ℕ, zero, suc, ◌+◌, ◌<◌, ◌≤◌, List, [], ◌∷◌, ◌++◌, append-nil, length, map, slice_index, inl, inr, refl, sym, ◌∙◌, ap}
use Rattle.std.proofs.Common.{subst, arith, Result, Ok, Err, slice_get}
use Rattle.{std.specs.Prelude.⊤, turns.specs.{Among.IsIn, Attempt.{act, act_in, changed, forgotten, free_act, giving_back, goes_on, request_in, rest_of}}}
use Rattle.turns.specs.{Attempt.{restarted, restarted_in}, World.{added_in, place}, declared.answer.Answer.{Answer, TheVariants.{Asked, Seized, Held}}}
use Rattle.turns.specs.declared.{answer.Answer.TheVariants.{Preferred, Done}, phase.Phase.TheVariants.{Requests, Seizes, Tests, Turns, Withdraws, GivesBack}}
use Rattle.turns.{specs.declared.{phase.Phase.TheVariants.Operates, wanted.Wanted.{Wanted, TheVariants.{Seize, Test}}}, proofs.Lists.index_other}
use Rattle.{xbar_equip.specs.{Word.{ConnWord, word_number}, declared.conn.Conn.{Conn, TheVariants.{Llf, Tlf, Group}}}, xbar_plan.specs.Tables.Tables}
use Rattle.{xbar_office.specs.declared.reply.Record.Record, xbar_jobs.specs.{Attempt.{Attempt, Phase}, Office.office, declared.decision.Decision.Decision}}
use Rattle.{xbar_jobs.specs.declared.effect.Effect.Effect, xbar_moves.specs.{AtWork.{answer_to_step, IsBackingAt, IsBackingIn}, Exchange.{Exchange, turned}}}
use Rattle.xbar_moves.specs.{Holding.{Holds, HasRequested, IsAt}, Moves.{after_answer, backed_as, restarted_at, frees_left, given_at, given_back, added_record}}
use Rattle.xbar_moves.{specs.Moves.{request_count, after_step, steps}, proofs.Backing.{starts_back, back_goes, backing, by_backing, gives_one, left_is}}
use Rattle.xbar_moves.proofs.{Keeping.{KeepsRestarts, back_keeps, restarts_keep}, Jobs.{one_job, set_at}, Markers.marker_else}
use Rattle.xbar_moves.proofs.{StepCases.{now_at, step_cases, step_else}, Worlds.{added_at, answer_is, found_by, words_are}}
use Rattle.turns.specs.Attempt as generic
use Rattle.xbar_moves.specs.declared.event.Given.TheVariants as given
use Rattle.xbar_moves.specs.declared.event.Given.{Given}

module _ (plan : Tables) (k : ℕ) (Has : Exchange → Type 0) where
  -- each step of a marker on its way back keeps it
  abbrev KeepsBack : Type 0
  KeepsBack =
      (x : Exchange) (n : ℕ) (a : Attempt) → Has x → (at : IsAt x k n a) → IsBackingIn a a.phase
      → Has (after_answer plan k at.marker n a (answer_to_step k x.words a) x)

  -- it is kept, and the marker has nothing left to give up
  record IsBack (x : Exchange) : Type 0 where
    pub has : Has x
    pub none : frees_left x k ≡ 0

  module _ (keeps : KeepsBack) where
    one_back : (x : Exchange) → IsBackingAt (slice_get x.markers k) → Has x → Has (after_step plan k x)
    one_back x backs has = elim (step_cases plan x k) [
      | inl same ↦ subst Has (sym same) has
      | inr made ↦
          let back = backing x k backs in
          let one = one_job x k back.number made.number back.attempt made.attempt back.at made.at in
          subst Has (sym made.is) (keeps x made.number made.attempt has made.at (subst (λ (a : Attempt). IsBackingIn a a.phase) one.1 back.backs))
    ]

    -- so do as many steps as there are things to give up
    all_back : (count : ℕ) (x : Exchange) → IsBackingAt (slice_get x.markers k) → frees_left x k ≡ count → Has x → IsBack (steps plan k count x)
    unfolding steps
    all_back zero x backs left has = record { has = has; none = left }
    all_back (suc count) x backs left has =
        let less = gives_one plan k x backs count left in
        all_back count (after_step plan k x) less.backs (omega (arith, less.one, left)) (one_back x backs has)

    module _ (restarts : KeepsRestarts plan Has k) where
      -- a marker that may gives back all
      gave_back : (e : Exchange) → Has e → given_at e k ≡ given.Given → IsBack (steps plan k (frees_left e k) (restarted_at plan k e))
      gave_back e has gives = let now = starts_back plan e k gives in
          all_back (frees_left e k) (restarted_at plan k e) now.0 now.1 (restarts_keep plan Has k restarts e has)

      -- and any other changes nothing
      back_has : (e : Exchange) → Has e → Has (given_back plan k e)
      unfolding given_back
      back_has e has = by (given_at e k) refl where
        by : (what : Given) → given_at e k ≡ what → Has (backed_as what (steps plan k (frees_left e k) (restarted_at plan k e)) e)
        by given.Given gives = (gave_back e has gives).has
        by given.PastTurn is = has
        by given.Idle is = has

module _ (plan : Tables) (e : Exchange) (k : ℕ) where
  module _ (conn : Conn) (gives : given_at e k ≡ given.Given) where
    -- a marker that gives back has nothing left to give up
    none_left : frees_left (given_back plan k e) k ≡ 0
    none_left =
        ap (λ (x : Exchange). frees_left x k) (back_goes plan e k gives)
        ∙ (gave_back plan k (λ x. ⊤) (λ x n a has at backs. tt) (λ x n a has at. tt) e tt gives).none

    bare : (number : ℕ) (a : Attempt) → IsAt (given_back plan k e) k number a → request_count (request_in a.phase) + length a.held ≡ 0
    bare number a at = sym (left_is (given_back plan k e) k number a at) ∙ none_left

    -- so it holds no connector
    none_held : ¬ Holds (given_back plan k e) k conn
    none_held holds = by holds.attempt.held (let left = bare holds.number holds.attempt holds.at in omega (arith, left)) holds.held where
      by : (held : List Conn) → length held ≡ 0 → IsIn conn held → ⊥
      by [] none within = within
      by (other ∷ held) none within = omega (arith, none)

    -- and it has no request
    none_requested : ¬ HasRequested (given_back plan k e) k conn
    none_requested asks =
        let left = bare asks.number asks.attempt asks.at in
        let one : request_count (request_in asks.attempt.phase) ≡ 1 = ap request_count asks.request in
        omega (arith, left, one)

    pub frees_all : (¬ Holds (given_back plan k e) k conn) × (¬ HasRequested (given_back plan k e) k conn)
    frees_all = (none_held, none_requested)

  -- all other markers stay as they are
  pub others_stay : (j : ℕ) → j ≢ k → slice_get (given_back plan k e).markers j ≡ slice_get e.markers j
  others_stay j other =
      back_keeps plan (λ x. slice_get x.markers j ≡ slice_get e.markers j) k (λ x is. step_else plan x k j other ∙ is)
      (λ x number a is at. marker_else x.markers k j _ other ∙ is) e refl

module _ (plan : Tables) where
  freed_job : (a : Attempt) (held : List Conn) → (giving_back (office plan) a held).job ≡ a.job
  freed_job a [] = refl
  freed_job a (conn ∷ held) = refl

  -- an attempt that begins anew is at its job
  anew_job : (a : Attempt) (phase : Phase) → (restarted_in (office plan) phase a).job ≡ a.job
  anew_job a (Requests conn) = freed_job (forgotten a) a.held
  anew_job a (Seizes conn expected) = refl
  anew_job a (Tests word) = freed_job (forgotten a) a.held
  anew_job a Turns = freed_job (forgotten a) a.held
  anew_job a (Withdraws conn) = refl
  anew_job a GivesBack = refl
  anew_job a (Operates turn) = refl

  goes_job : (a : Attempt) (to : Result Decision (Wanted Conn ℕ)) → (goes_on (office plan) a to).job ≡ a.job
  goes_job a (Ok decision) = refl
  goes_job a (Err (Seize conn)) = refl
  goes_job a (Err (Test word)) = refl

  -- and stays at it on its way back
  back_job : (a : Attempt) (phase : Phase) (answer : Answer) → IsBackingIn a phase → (changed (office plan) a phase answer).job ≡ a.job
  back_job a (Seizes conn expected) answer backs = absurd backs
  back_job a (Tests word) answer backs = absurd backs
  back_job a Turns answer backs = absurd backs
  back_job a (Operates turn) answer backs = absurd backs
  back_job a (Requests conn) (Asked word) backs = refl
  back_job a (Requests conn) Seized backs = goes_job (record a { held = a.held ++ conn ∷ [] }) _
  back_job a (Requests conn) (Held holder) backs = refl
  back_job a (Requests conn) (Preferred other) backs = refl
  back_job a (Withdraws conn) Done backs = freed_job a a.held
  back_job a GivesBack Done backs = freed_job a (rest_of a.held)
  back_job a _ _ backs = refl

  -- it adds no record
  adds_none : (k n found : ℕ) (a : Attempt) (phase : Phase) → IsBackingIn a phase → added_in (office plan) k n a phase found ≡ []
  adds_none k n found a = by_backing (λ phase. added_in (office plan) k n a phase found ≡ []) a (λ conn. refl) (λ more. refl) (λ conn none. refl)

  no_records : (records : List Record) → map turned records ≡ [] → records ≡ []
  no_records [] none = refl
  no_records (r ∷ records) none = absurd cc

  back_records : (k n : ℕ) (words : List ℕ) (a : Attempt) → IsBackingIn a a.phase → added_record k n a (answer_to_step k words a) ≡ []
  back_records k n words a backs =
      let found : ℕ = found_by plan words a in
      ap (added_record k n a) (answer_is plan k words a)
      ∙ no_records (added_record k n a (generic.answer_to (office plan) k (act a) found))
      (added_at plan k n found a a.phase ∙ adds_none k n found a a.phase backs)

  -- and its steps are on words of connectors, after the protected ones
  pub conn_behind : (conn : Conn) → 416 ≤ word_number (ConnWord conn)
  conn_behind (Llf frame) = omega arith
  conn_behind (Tlf frame) = omega arith
  conn_behind (Group group) = omega arith

  free_behind : (held : List Conn) → 416 ≤ place (office plan) (free_act {Effect = Effect} held)
  free_behind [] = omega arith
  free_behind (conn ∷ held) = conn_behind conn

  back_behind : (a : Attempt) (phase : Phase) → IsBackingIn a phase → 416 ≤ place (office plan) (act_in phase a)
  back_behind a = by_backing (λ phase. 416 ≤ place (office plan) (act_in phase a)) a conn_behind (λ more. free_behind a.held) (λ conn none. conn_behind conn)

  module _ (e : Exchange) (k : ℕ) where
    -- so a marker that gives back adds no record
    pub records_stay : (given_back plan k e).records ≡ e.records
    records_stay = back_has plan k (λ x. x.records ≡ e.records)
        (λ x n a is at backs. ap (λ (more : List Record). x.records ++ more) (back_records k n x.words a backs) ∙ append-nil x.records ∙ is)
        (λ x n a is at. is) e refl

    -- changes no protected word
    pub words_stay : (n : ℕ) → n < 416 → slice_index (given_back plan k e).words n ≡ slice_index e.words n
    words_stay n below = back_has plan k (λ x. slice_index x.words n ≡ slice_index e.words n)
        (λ x number a is at backs.
        let behind = back_behind a a.phase backs in
        ap (λ (words : List ℕ). slice_index words n) (words_are plan k x.words a) ∙ index_other x.words _ n _ (λ same. omega (arith, same, behind, below)) ∙ is)
        (λ x number a is at. is) e refl

    -- and keeps its job, under its number
    pub job_stays : (number : ℕ) (a : Attempt) → IsAt e k number a → (b : Attempt) × IsAt (given_back plan k e) k number b × (b.job ≡ a.job)
    job_stays number a at = back_has plan k Has
        (λ x n c has here backs. goes x n c has here _ _ (now_at plan x k n c (answer_to_step k x.words c) here)
        (back_job c c.phase (answer_to_step k x.words c) backs))
        (λ x n c has here. goes x n c has here _ _ (set_at x k n here.marker (restarted (office plan) c) here.there) (anew_job c c.phase))
        e (a, at, refl) where
          Has : Exchange → Type 0
          Has x = (b : Attempt) × IsAt x k number b × (b.job ≡ a.job)

          goes : (x : Exchange) (n : ℕ) (c : Attempt) → Has x → IsAt x k n c → (y : Exchange) (b : Attempt) → IsAt y k n b → b.job ≡ c.job → Has y
          goes x n c has here y b now same =
              let one = one_job x k n number c has.0 here has.1 in
              (b, subst (λ (i : ℕ). IsAt y k i b) one.0 now, same ∙ ap (λ (d : Attempt). d.job) one.1 ∙ has.2)
