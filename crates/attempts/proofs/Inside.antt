-- an attempt's fields, as its methods have them, and its view
use Rattle.std.proofs.Common.{◌≡◌, ℕ, suc, arith, ne_eqb, ◌<◌, ◌+◌, ◌^◌, Bool, true, false, List, [], ◌∷◌, length, refl, sym, ◌∙◌, ap, subst, ◌==◌}
use Rattle.std.proofs.Common.{if◌then◌else◌, Option, Some, None, IfSome, slice_get}
use Rattle.turns.specs.{Attempt.{Attempt, act, act_in, answer_to, asked_in, closing_act, free_act, turn_in}, Sharings.sharing_of, declared.act.Act.Act}
use Rattle.turns.specs.declared.{act.Act.TheVariants.{Free, Finished}, answer.Answer.{Answer, TheVariants.Done}, phase.Phase.Phase}
use Rattle.turns.specs.{declared.phase.Phase.TheVariants.{Requests, Seizes, Withdraws, GivesBack, Operates}, Runs.is_finished, Outcomes.is_giving_back}
use Rattle.attempts.specs.{Counting.is_at_beginning, WalkOnWords.WalkState, Validity.{AttemptView, attempt_of, begun_at, effects_left}, Answers.answer_in}
use Rattle.attempts.specs.SystemWith.{SystemWith, system_with}

-- what its phase tells
pub in_phase : {Lock Job Decision ResumePoint A : Type 0} (f : AttemptView Lock Job Decision ResumePoint → Phase Lock ℕ → A)
    (p now : AttemptView Lock Job Decision ResumePoint) (phase : Phase Lock ℕ) → p ≡ now → p.phase ≡ phase → f p phase ≡ f now now.phase
in_phase f p now phase inside is = ap (f p) (sym is) ∙ ap (λ (x : AttemptView _ _ _ _). f x x.phase) inside

pub phase_now : {Lock Job Decision ResumePoint : Type 0} (p now : AttemptView Lock Job Decision ResumePoint) (phase : Phase Lock ℕ) → p ≡ now → p.phase ≡ phase
    → now.phase ≡ phase
phase_now p now phase inside is = sym (ap (λ (x : AttemptView _ _ _ _). x.phase) inside) ∙ is

pub same_phase : {Lock Job Decision ResumePoint : Type 0} (p now : AttemptView Lock Job Decision ResumePoint) → p ≡ now → p.phase ≡ now.phase
same_phase p now inside = ap (λ (x : AttemptView _ _ _ _). x.phase) inside

pub same_count : {Lock Job Decision ResumePoint : Type 0} (p now : AttemptView Lock Job Decision ResumePoint) → p ≡ now → p.count ≡ now.count
same_count p now inside = ap (λ (x : AttemptView _ _ _ _). x.count) inside

-- with more, or less, that is held or read
pub with_seen : {Lock Job Decision ResumePoint : Type 0} (p now : AttemptView Lock Job Decision ResumePoint) (state made : WalkState Lock)
    (of : AttemptView Lock Job Decision ResumePoint → AttemptView Lock Job Decision ResumePoint) → p ≡ now → state
    ≡ made → record p { readings = made.seen.readings; held = made.seen.held } ≡ of p → record p { readings = state.seen.readings; held = state.seen.held }
    ≡ of now
with_seen p now state made of inside is so = ap (λ (x : WalkState _). record p { readings = x.seen.readings; held = x.seen.held }) is ∙ so ∙ ap of inside

pub forgets : {Lock Job Decision ResumePoint : Type 0} (p now : AttemptView Lock Job Decision ResumePoint) (state : WalkState Lock) (left held_word : ℕ)
    → p ≡ now → state ≡ record { seen = record { held = p.held; readings = [] }; left = left; held_word = held_word }
    → record p { readings = state.seen.readings; held = state.seen.held; decision = None; made = 0 } ≡ record now { readings = []; decision = None; made = 0 }
forgets p now state left held_word inside is =
    ap (λ (x : WalkState _). record p { readings = x.seen.readings; held = x.seen.held; decision = None; made = 0 }) is
    ∙ ap (λ (x : AttemptView _ _ _ _). record x { readings = []; decision = None; made = 0 }) inside

pub begins_anew : {Lock Job Decision ResumePoint : Type 0} (p now new : AttemptView Lock Job Decision ResumePoint) (held : List Lock) (first : Lock)
    (point : ResumePoint) → p ≡ now → held ≡ [] → new
    ≡ record p { point = point; readings = []; held = held; phase = Requests first; decision = None; made = 0 } → new
    ≡ record (begun_at now.job first point) { count = now.count }
begins_anew p now new held first point inside none made =
    made ∙ ap (λ (h : List _). record p { point = point; readings = []; held = h; phase = Requests first; decision = None; made = 0 }) none
    ∙ ap (λ (x : AttemptView _ _ _ _). record (begun_at x.job first point) { count = x.count }) inside

-- with nothing read and nothing held
pub is_new : {Lock Job Decision ResumePoint : Type 0} (job : Job) (point : ResumePoint) (first : Lock) (state : WalkState Lock)
    → state ≡ record { seen = record { held = []; readings = [] }; left = 0; held_word = 0 }
    → ◌≡◌ {A = AttemptView Lock Job Decision ResumePoint}
    (record { job = job; point = point; readings = state.seen.readings; held = state.seen.held; phase = Requests first; decision = None; made = 0; count = 0 })
    (begun_at job first point)
is_new {Lock} {Job} {Decision} {ResumePoint} job point first state is = ap made is where
  made : WalkState Lock → AttemptView Lock Job Decision ResumePoint
  made x = record { job = job; point = point; readings = x.seen.readings; held = x.seen.held; phase = Requests first; decision = None; made = 0; count = 0 }

-- a phase that is no other's has no turn, and is no beginning
pub no_turn : {Lock : Type 0} (phase : Phase Lock ℕ) → ((turn : ℕ) → phase ≡ Operates turn → ⊥) → None ≡ turn_in phase
no_turn (Operates turn) not = absurd (not turn refl)
no_turn phase not = refl

pub has_begun : {Lock : Type 0} (phase : Phase Lock ℕ) (held : List Lock) → ((lock : Lock) → phase ≡ Requests lock → ⊥) → false ≡ is_at_beginning phase held
has_begun (Requests lock) held not = absurd (not lock refl)
has_begun phase held not = refl

-- nor does it ask for a lock, or give one up, and there is a step to make
pub asks_none : {Lock : Type 0} (phase : Phase Lock ℕ) → ((lock : Lock) → phase ≡ Requests lock → ⊥)
    → ((lock : Lock) (expected : ℕ) → phase ≡ Seizes lock expected → ⊥) → None ≡ asked_in phase
asks_none (Requests lock) neither not = absurd (neither lock refl)
asks_none (Seizes lock expected) neither not = absurd (not lock expected refl)
asks_none phase neither not = refl

pub goes_ahead : {Lock : Type 0} (phase : Phase Lock ℕ) → ((lock : Lock) → phase ≡ Withdraws lock → ⊥) → (phase ≡ GivesBack → ⊥) → false ≡ is_giving_back phase
goes_ahead (Withdraws lock) neither not = absurd (neither lock refl)
goes_ahead GivesBack neither not = absurd (not refl)
goes_ahead phase neither not = refl

pub is_busy : {Lock Job Reply Effect Decision ResumePoint : Type 0} (reply_of : Decision → Reply) (effects_of : Decision → List Effect)
    (p now : AttemptView Lock Job Decision ResumePoint) → p ≡ now → (p.phase ≡ GivesBack → ⊥) → ((turn : ℕ) → p.phase ≡ Operates turn → ⊥) → false
    ≡ is_finished (act (attempt_of reply_of effects_of now))
is_busy {Lock} reply_of effects_of p now inside neither not =
    at p.phase neither not ∙ ap (λ (x : AttemptView _ _ _ _). is_finished (act (attempt_of reply_of effects_of x))) inside where
      at : (phase : Phase Lock ℕ) → (phase ≡ GivesBack → ⊥) → ((turn : ℕ) → phase ≡ Operates turn → ⊥)
          → false ≡ is_finished (act_in phase (attempt_of reply_of effects_of p))
      at GivesBack neither not = absurd (neither refl)
      at (Operates turn) neither not = absurd (not turn refl)
      at phase neither not = refl

-- its fields have room if its view has
pub has_room : {Lock Job Decision ResumePoint : Type 0} (p now : AttemptView Lock Job Decision ResumePoint) (most : ℕ) → p ≡ now → length now.held < most
    → length p.held < most
has_room p now most inside room = subst (λ (x : AttemptView _ _ _ _). length x.held < most) (sym inside) room

-- with another count
pub recounts : {Lock Job Decision ResumePoint : Type 0} (p now : AttemptView Lock Job Decision ResumePoint) (count : ℕ)
    (of : AttemptView Lock Job Decision ResumePoint → ℕ) → p ≡ now → count ≡ of now → record p { count = count } ≡ record now { count = of now }
recounts p now count of inside is = ap (λ (n : ℕ). record p { count = n }) is ∙ ap (λ (x : AttemptView _ _ _ _). record x { count = of now }) inside

pub counts_from_none : (count more : ℕ) (fresh made_none : Bool) → count ≡ 0 → fresh ≡ true → fresh ≡ made_none → count ≡ (if made_none then 0 else more)
counts_from_none count more fresh made_none none is_true is = none ∙ ap (λ (b : Bool). if b then 0 else more) (sym is_true ∙ is)

pub counts_more : (count more : ℕ) (fresh made_none : Bool) → count ≡ more → fresh ≡ false → fresh ≡ made_none → count ≡ (if made_none then 0 else more)
counts_more count more fresh made_none one_more is_false is = one_more ∙ ap (λ (b : Bool). if b then 0 else more) (sym is_false ∙ is)

-- what is held is freed from the first on
pub frees_first : {Lock Effect : Type 0} (held : List Lock) (lock : Lock) → Some lock ≡ slice_get held 0 → ◌≡◌ {A = Act Lock Effect} (Free lock) (free_act held)
frees_first [] lock e = absurd cc
frees_first (own ∷ held) lock e = let same : lock ≡ own = cc in ap Free same

pub frees_none : {Lock Effect : Type 0} (held : List Lock) → None ≡ slice_get held 0 → ◌≡◌ {A = Act Lock Effect} Finished (free_act held)
frees_none [] e = refl
frees_none (own ∷ held) e = absurd cc

pub none_to_free : {Lock : Type 0} (Effect : Type 0) (held : List Lock) → (length held == 0) ≡ is_finished (free_act {Effect = Effect} held)
none_to_free Effect [] = refl
none_to_free Effect (lock ∷ held) = ne_eqb (suc (length held)) 0 (λ e. omega (arith, e))

-- undecided, it has no effect left to make
pub undecided : {Lock Job Decision ResumePoint Effect : Type 0} (effects_of : Decision → List Effect) (p now : AttemptView Lock Job Decision ResumePoint)
    → p ≡ now → p.decision ≡ None → effects_left effects_of now.decision now.made ≡ []
undecided effects_of p now inside none =
    sym (ap (λ (x : AttemptView _ _ _ _). effects_left effects_of x.decision x.made) inside) ∙ ap (λ (d : Option _). effects_left effects_of d p.made) none

pub more_fits : {Lock Job Decision ResumePoint Effect : Type 0} (p now : AttemptView Lock Job Decision ResumePoint) (found : Option Effect) → p ≡ now
    → IfSome found (λ effect. p.made + 1 < 2 ^ 64) → IfSome found (λ effect. now.made + 1 < 2 ^ 64)
more_fits p now found inside more = subst (λ (x : AttemptView _ _ _ _). IfSome found (λ effect. x.made + 1 < 2 ^ 64)) inside more

-- the answer to its next step depends on its phase alone
module _ {Lock Job Reply Effect Decision : Type 0} (same : Lock → Lock → Bool) (reply_of : Decision → Reply) (effects_of : Decision → List Effect)
    (S : SystemWith Lock Job Reply Effect Decision) (k found : ℕ) where
  abbrev answered : Act Lock Effect → Answer
  answered step = answer_to (system_with same reply_of effects_of S) k step found

  freeing_done : (held : List Lock) → Done ≡ answered (free_act held)
  freeing_done [] = refl
  freeing_done (lock ∷ held) = refl

  closing_done : (effects : List Effect) (held : List Lock) → Done ≡ answered (closing_act effects held)
  closing_done [] held = freeing_done held
  closing_done (effect ∷ effects) held = refl

  pub told_by : (phase : Phase Lock ℕ) (a : Attempt Lock Job Reply Effect) → answer_in (sharing_of S.sharing) phase k found ≡ answered (act_in phase a)
  told_by GivesBack a = freeing_done a.held
  told_by (Operates turn) a = closing_done a.effects a.held
  told_by phase a = refl
