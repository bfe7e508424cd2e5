-- what is held is given back
use Rattle.std.proofs.Common.{◌≡◌, ℕ, Bool, true, false, List, [], ◌∷◌, length, ◌⊎◌, inl, inr, refl, sym, ◌∙◌, ap, subst, arith, eqb-true, ◌==◌, None}
use Rattle.turns.specs.{Attempt.{AttemptOf, begin, changed, forgotten, giving_back, rest_of, restarted, restarted_in}, System.System}
use Rattle.turns.specs.declared.{answer.Answer.TheVariants.{Held, Preferred}, phase.Phase.Phase}
use Rattle.turns.specs.declared.phase.Phase.TheVariants.{Requests, Seizes, Tests, Turns, Withdraws, GivesBack, Operates}
use Rattle.attempts.specs.{Validity.{AttemptView, attempt_of}, SystemWith.{SystemWith, system_with}}

-- the phases in which it may give up, with no request pending; and those in which it gives back or
-- is past its turn
abbrev MayGiveUp : {Lock : Type 0} → Phase Lock ℕ → Type 0
MayGiveUp {Lock} phase = ((lock : Lock) × (phase ≡ Requests lock)) ⊎ (((word : ℕ) × (phase ≡ Tests word)) ⊎ (phase ≡ Turns))

abbrev IsLate : {Lock : Type 0} → Phase Lock ℕ → Type 0
IsLate {Lock} phase = ((lock : Lock) × (phase ≡ Withdraws lock)) ⊎ ((phase ≡ GivesBack) ⊎ ((turn : ℕ) × (phase ≡ Operates turn)))

module _ (O : System) where
  open O use {Lock}

  freed_some : (a : AttemptOf O) (held : List Lock) (b : Bool) → b ≡ (length held == 0) → b ≡ false → a.held ≡ held
      → record a { phase = GivesBack } ≡ giving_back O a held
  freed_some a [] b none some e = absurd cc
  freed_some a (lock ∷ held) b none some e = ap (λ (h : List Lock). record a { held = h; phase = GivesBack }) e

  freed_none : (a : AttemptOf O) (held : List Lock) (b : Bool) → b ≡ (length held == 0) → b ≡ true → begin O a.job ≡ giving_back O a held
  freed_none a [] b none empty = refl
  freed_none a (lock ∷ held) b none empty = let e = eqb-true (length (lock ∷ held)) 0 (sym none ∙ empty) in absurd (omega arith)

  -- whatever it held before
  freed_any : (a : AttemptOf O) (other held : List Lock) → giving_back O (record a { held = other }) held ≡ giving_back O a held
  freed_any a other [] = refl
  freed_any a other (lock ∷ held) = refl

  -- given up before the turn, or gone too far for it
  pub given_up : (a : AttemptOf O) (phase : Phase Lock ℕ) → MayGiveUp phase → giving_back O (forgotten a) a.held ≡ restarted_in O phase a
  given_up a phase (inl (lock, e)) = ap (λ (at : Phase Lock ℕ). restarted_in O at a) (sym e)
  given_up a phase (inr (inl (word, e))) = ap (λ (at : Phase Lock ℕ). restarted_in O at a) (sym e)
  given_up a phase (inr (inr e)) = ap (λ (at : Phase Lock ℕ). restarted_in O at a) (sym e)

  pub stays_so : (a : AttemptOf O) (phase : Phase Lock ℕ) → IsLate phase → a ≡ restarted_in O phase a
  stays_so a phase (inl (lock, e)) = ap (λ (at : Phase Lock ℕ). restarted_in O at a) (sym e)
  stays_so a phase (inr (inl e)) = ap (λ (at : Phase Lock ℕ). restarted_in O at a) (sym e)
  stays_so a phase (inr (inr (turn, e))) = ap (λ (at : Phase Lock ℕ). restarted_in O at a) (sym e)

  -- an attempt that neither requests nor seizes stays as it is if it is denied a lock
  pub held_stays : (a : AttemptOf O) (phase : Phase Lock ℕ) (holder : ℕ) → ((lock : Lock) → phase ≡ Requests lock → ⊥)
      → ((lock : Lock) (expected : ℕ) → phase ≡ Seizes lock expected → ⊥) → a ≡ changed O a phase (Held holder)
  held_stays a (Requests lock) holder asks seizes = absurd (asks lock refl)
  held_stays a (Seizes lock expected) holder asks seizes = absurd (seizes lock expected refl)
  held_stays a phase holder asks seizes = refl

  pub preferred_stays : (a : AttemptOf O) (phase : Phase Lock ℕ) (other : ℕ) → ((lock : Lock) → phase ≡ Requests lock → ⊥)
      → ((lock : Lock) (expected : ℕ) → phase ≡ Seizes lock expected → ⊥) → a ≡ changed O a phase (Preferred other)
  preferred_stays a (Requests lock) other asks seizes = absurd (asks lock refl)
  preferred_stays a (Seizes lock expected) other asks seizes = absurd (seizes lock expected refl)
  preferred_stays a phase other asks seizes = refl

module _ {Lock Job Reply Effect Decision : Type 0} (same : Lock → Lock → Bool) (reply_of : Decision → Reply) (effects_of : Decision → List Effect)
    (S : SystemWith Lock Job Reply Effect Decision) where
  abbrev O : System
  O = system_with same reply_of effects_of S

  -- as the code has it: the attempt from inside and from outside
  module _ {ResumePoint : Type 0} (p now : AttemptView Lock Job Decision ResumePoint) (inside : p ≡ now) (b : Bool) (none : b ≡ (length p.held == 0)) where
    pub gives_back : b ≡ false → attempt_of reply_of effects_of (record p { phase = GivesBack }) ≡ giving_back O (attempt_of reply_of effects_of now) now.held
    gives_back some =
        subst (λ (x : AttemptView Lock Job Decision ResumePoint). attempt_of reply_of effects_of (record p { phase = GivesBack })
        ≡ giving_back O (attempt_of reply_of effects_of x) x.held) inside (freed_some O (attempt_of reply_of effects_of p) p.held b none some refl)

    -- with nothing held the job begins anew
    pub begins_anew : (new : AttemptView Lock Job Decision ResumePoint) → b ≡ true → attempt_of reply_of effects_of new ≡ begin O now.job
        → attempt_of reply_of effects_of new ≡ giving_back O (attempt_of reply_of effects_of now) now.held
    begins_anew new empty begins =
        begins
        ∙ freed_none O (attempt_of reply_of effects_of now) now.held b
        (none ∙ ap (λ (x : AttemptView Lock Job Decision ResumePoint). length x.held == 0) inside) empty

  pub frees_on : {ResumePoint : Type 0} (p mid new : AttemptView Lock Job Decision ResumePoint) → mid ≡ record p { held = rest_of p.held }
      → attempt_of reply_of effects_of new ≡ giving_back O (attempt_of reply_of effects_of mid) mid.held
      → attempt_of reply_of effects_of new ≡ giving_back O (attempt_of reply_of effects_of p) (rest_of p.held)
  frees_on {ResumePoint} p mid new made frees =
      frees ∙ ap (λ (x : AttemptView Lock Job Decision ResumePoint). giving_back O (attempt_of reply_of effects_of x) x.held) made
      ∙ freed_any O (attempt_of reply_of effects_of p) (rest_of p.held) (rest_of p.held)

  -- it begins anew, once what it holds is given back
  module _ {ResumePoint : Type 0} (p now new : AttemptView Lock Job Decision ResumePoint) (inside : p ≡ now) where
    phases : p.phase ≡ now.phase
    phases = ap (λ (x : AttemptView Lock Job Decision ResumePoint). x.phase) inside

    pub gives_up : MayGiveUp p.phase → attempt_of reply_of effects_of new ≡ giving_back O (forgotten (attempt_of reply_of effects_of now)) now.held
        → attempt_of reply_of effects_of new ≡ restarted O (attempt_of reply_of effects_of now)
    gives_up may frees = frees ∙ given_up O (attempt_of reply_of effects_of now) now.phase (subst MayGiveUp phases may)

    pub withdraws : (lock : Lock) (expected : ℕ) → p.phase ≡ Seizes lock expected
        → new ≡ record now { readings = []; decision = None; made = 0; phase = Withdraws lock }
        → attempt_of reply_of effects_of new ≡ restarted O (attempt_of reply_of effects_of now)
    withdraws lock expected is made =
        ap (attempt_of reply_of effects_of) made ∙ ap (λ (at : Phase Lock ℕ). restarted_in O at (attempt_of reply_of effects_of now)) (sym is ∙ phases)

    pub stays : IsLate p.phase → attempt_of reply_of effects_of now ≡ restarted O (attempt_of reply_of effects_of now)
    stays late = stays_so O (attempt_of reply_of effects_of now) now.phase (subst IsLate phases late)
