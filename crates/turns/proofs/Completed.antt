use Rattle.std.proofs.Common.{◌≡◌, ℕ, zero, suc, ◌+◌, ◌<◌, ◌≢◌, ◌⊎◌, Bool, true, false, List, [], ◌∷◌, ◌++◌, length, set, slice_index, sym, refl, ap, inl, inr}
use Rattle.std.proofs.Common.{◌∙◌, subst, arith, eq-eqb, length-set, zero-add, ◌==◌, if◌then◌else◌, eqb-true}
use mathlib.Core.Option.{some, some-injective, some-ne-none}
use lib.ListN.{get_elem?}
use Rattle.turns.specs.{Among.IsIn, System.{System, effect_on, IsSystem, IsUnder, AreUnder, AreDue, perform, perform_all}, World.{World, ActorOf}}
use Rattle.turns.{specs.World.{effects_left_of, value_after, completed, completed_word, completed_from}, proofs.Lists.{one_or_two, index_same, index_other}}

if_true : {A : Type 0} (b : Bool) (x y : A) → b ≡ true → (if b then x else y) ≡ x
if_true true x y e = refl
if_true false x y e = cc

if_false : {A : Type 0} (b : Bool) (x y : A) → (b ≡ true → ⊥) → (if b then x else y) ≡ y
if_false true x y e = absurd (e refl)
if_false false x y e = refl

module _ (O : System) where
  open O use {Lock, Effect, effect_word}

  -- an effect on this word, and one on another word
  pub made_here : (effect : Effect) (effects : List Effect) (n v : ℕ) → effect_word effect ≡ n
      → value_after O (effect ∷ effects) n v ≡ value_after O effects n (effect_on O effect v)
  made_here effect effects n v e = ap (value_after O effects n) (if_true (effect_word effect == n) (effect_on O effect v) v (eq-eqb (effect_word effect) n e))

  pub made_else : (effect : Effect) (effects : List Effect) (n v : ℕ) → effect_word effect ≢ n
      → value_after O (effect ∷ effects) n v ≡ value_after O effects n v
  made_else effect effects n v e =
      ap (value_after O effects n) (if_false (effect_word effect == n) (effect_on O effect v) v (λ yes. e (eqb-true (effect_word effect) n yes)))

  -- effects and then others
  pub made_append : (effects more : List Effect) (n v : ℕ) → value_after O (effects ++ more) n v ≡ value_after O more n (value_after O effects n v)
  made_append [] more n v = refl
  made_append (effect ∷ effects) more n v = made_append effects more n (if effect_word effect == n then effect_on O effect v else v)

  -- effects that leave a word as it is
  abbrev pub Spares : List Effect → ℕ → Type 0
  Spares effects n = (v : ℕ) → value_after O effects n v ≡ v

  -- some effect is on this word, or all of them spare it
  pub touch_or_spare : (effects : List Effect) (n : ℕ) → ((effect : Effect) × IsIn effect effects × (effect_word effect ≡ n)) ⊎ Spares effects n
  touch_or_spare [] n = inr (λ v. refl)
  touch_or_spare (effect ∷ effects) n = at (one_or_two (effect_word effect) n) (touch_or_spare effects n) where
    at : (effect_word effect ≡ n) ⊎ (effect_word effect ≢ n) → ((e : Effect) × IsIn e effects × (effect_word e ≡ n)) ⊎ Spares effects n
        → ((e : Effect) × IsIn e (effect ∷ effects) × (effect_word e ≡ n)) ⊎ Spares (effect ∷ effects) n
    at (inl e) later = inl (effect, inl refl, e)
    at (inr other) (inl t) = inl (t.0, inr t.1, t.2)
    at (inr other) (inr spares) = inr (λ v. made_else effect effects n v other ∙ spares v)

  -- effects under some locks spare a word that is not under them
  pub under_spares : (held : List Lock) (effects : List Effect) (n : ℕ) → AreUnder O held effects → ¬ IsUnder O held n → Spares effects n
  under_spares held effects n under apart =
      elim (touch_or_spare effects n) [ inl t ↦ absurd (apart (subst (IsUnder O held) t.2 (under t.0 t.1))) | inr spares ↦ spares ]

  -- the words after effects, word by word
  pub perform_length : (words : List ℕ) (effects : List Effect) → length (perform_all O words effects) ≡ length words
  unfolding perform_all
  perform_length words [] = refl
  perform_length words (effect ∷ effects) =
      perform_length (perform O words effect) effects ∙ length-set words (effect_word effect) (effect_on O effect (slice_index words (effect_word effect)))

  pub perform_index : (words : List ℕ) (effects : List Effect) (n : ℕ) → ((effect : Effect) → IsIn effect effects → effect_word effect < length words)
      → slice_index (perform_all O words effects) n ≡ value_after O effects n (slice_index words n)
  unfolding perform_all
  perform_index words [] n there = refl
  perform_index words (effect ∷ effects) n there =
      perform_index (perform O words effect) effects n
      (λ e within. subst (λ (l : ℕ). effect_word e < l)
      (sym (length-set words (effect_word effect) (effect_on O effect (slice_index words (effect_word effect))))) (there e (inr within)))
      ∙ ap (value_after O effects n) (at (one_or_two (effect_word effect) n)) where
        at : (effect_word effect ≡ n) ⊎ (effect_word effect ≢ n)
            → slice_index (perform O words effect) n ≡ (if effect_word effect == n then effect_on O effect (slice_index words n) else slice_index words n)
        at (inl e) =
            subst (λ (m : ℕ). slice_index (perform O words effect) m ≡ effect_on O effect (slice_index words m)) e
            (index_same words (effect_word effect) (effect_on O effect (slice_index words (effect_word effect))) (there effect (inl refl))) ∙
            sym (if_true (effect_word effect == n) (effect_on O effect (slice_index words n)) (slice_index words n) (eq-eqb (effect_word effect) n e))
        at (inr other) =
            index_other words (effect_word effect) n (effect_on O effect (slice_index words (effect_word effect))) (λ e. other (sym e)) ∙
            sym (if_false (effect_word effect == n) (effect_on O effect (slice_index words n)) (slice_index words n)
            (λ yes. other (eqb-true (effect_word effect) n yes)))

  -- an effect does the same to a word that is the same
  perform_same : (words other : List ℕ) (effect : Effect) (n : ℕ) → effect_word effect < length words → effect_word effect < length other
      → slice_index other (effect_word effect) ≡ slice_index words (effect_word effect) → slice_index other n ≡ slice_index words n
      → slice_index (perform O other effect) n ≡ slice_index (perform O words effect) n
  perform_same words other effect n this that at same = by (one_or_two n (effect_word effect)) where
    by : (n ≡ effect_word effect) ⊎ (n ≢ effect_word effect) → slice_index (perform O other effect) n ≡ slice_index (perform O words effect) n
    by (inl e) =
        subst (λ (m : ℕ). slice_index (perform O other effect) m ≡ slice_index (perform O words effect) m) (sym e)
        (index_same other (effect_word effect) (effect_on O effect (slice_index other (effect_word effect))) that ∙ ap (effect_on O effect) at
        ∙ sym (index_same words (effect_word effect) (effect_on O effect (slice_index words (effect_word effect))) this))
    by (inr apart) =
        index_other other (effect_word effect) n (effect_on O effect (slice_index other (effect_word effect))) apart ∙ same
        ∙ sym (index_other words (effect_word effect) n (effect_on O effect (slice_index words (effect_word effect))) apart)

  -- effects are due on other words that have the same under what is held
  pub due_along : (system : IsSystem O) (held : List Lock) (words other : List ℕ) (effects : List Effect) → length words ≡ O.size → length other ≡ O.size
      → AreUnder O held effects → ((n : ℕ) → IsUnder O held n → slice_index other n ≡ slice_index words n) → AreDue O words effects → AreDue O other effects
  due_along system held words other [] this that under same due = tt
  due_along system held words other (effect ∷ effects) this that under same due =
      let u = under effect (inl refl) in
      let below = system.words.word_there (effect_word effect) u.lock u.protects in (
        subst (O.Due effect) (sym (same (effect_word effect) u)) due.0,
        due_along system held (perform O words effect) (perform O other effect) effects
            (length-set words (effect_word effect) (effect_on O effect (slice_index words (effect_word effect))) ∙ this)
            (length-set other (effect_word effect) (effect_on O effect (slice_index other (effect_word effect))) ∙ that)
            (λ e within. under e (inr within))
            (λ n over. perform_same words other effect n (subst (λ (l : ℕ). effect_word effect < l) (sym this) below)
            (subst (λ (l : ℕ). effect_word effect < l) (sym that) below) (same (effect_word effect) u) (same n over))
            due.1,
      )

  -- the completed words, word by word
  pub completed_length : (actors : List (ActorOf O)) (i : ℕ) (words : List ℕ) → length (completed_from O actors i words) ≡ length words
  completed_length actors i [] = refl
  completed_length actors i (value ∷ words) = ap suc (completed_length actors (suc i) words)

  pub completed_at : (actors : List (ActorOf O)) (i : ℕ) (words : List ℕ) (n : ℕ) → n < length words
      → slice_index (completed_from O actors i words) n ≡ completed_word O actors (i + n) (slice_index words n)
  completed_at actors i [] n h = absurd (omega arith)
  completed_at actors i (value ∷ words) zero h = let e : i ≡ i + zero = omega arith in ap (λ (m : ℕ). completed_word O actors m value) e
  completed_at actors i (value ∷ words) (suc n) h = let e : suc i + n ≡ i + suc n = omega arith in
      completed_at actors (suc i) words n (omega arith) ∙ ap (λ (m : ℕ). completed_word O actors m (slice_index words n)) e

  pub completed_index : (w : World O) (n : ℕ) → n < length w.words → slice_index (completed O w) n ≡ completed_word O w.actors n (slice_index w.words n)
  completed_index w n h = completed_at w.actors 0 w.words n h ∙ ap (λ (m : ℕ). completed_word O w.actors m (slice_index w.words n)) (zero-add n)

  -- no actor has effects on this word
  pub all_spare : (actors : List (ActorOf O)) (n v : ℕ) → ((j : ℕ) (m : ActorOf O) → get_elem? actors j ≡ some m → Spares (effects_left_of O m) n)
      → completed_word O actors n v ≡ v
  all_spare [] n v spare = refl
  all_spare (m ∷ actors) n v spare = ap (completed_word O actors n) (spare zero m refl v) ∙ all_spare actors n v (λ j other at. spare (suc j) other at)

  -- only actor k may have effects on this word
  pub only_one : (actors : List (ActorOf O)) (k n v : ℕ) (m : ActorOf O) → get_elem? actors k ≡ some m
      → ((j : ℕ) (other : ActorOf O) → j ≢ k → get_elem? actors j ≡ some other → Spares (effects_left_of O other) n)
      → completed_word O actors n v ≡ value_after O (effects_left_of O m) n v
  only_one [] k n v m at spare = absurd (some-ne-none m (sym at))
  only_one (x ∷ actors) zero n v m at spare =
      all_spare actors n (value_after O (effects_left_of O x) n v) (λ j other there. spare (suc j) other (λ e. omega arith) there)
      ∙ ap (λ (y : ActorOf O). value_after O (effects_left_of O y) n v) (some-injective x m at)
  only_one (x ∷ actors) (suc k) n v m at spare =
      ap (completed_word O actors n) (spare zero x (λ e. omega arith) refl v)
      ∙ only_one actors k n v m at (λ j other apart there. spare (suc j) other (λ e. apart (omega arith)) there)

  -- actor k's new effects do the same to this word
  pub same_done : (actors : List (ActorOf O)) (k n v : ℕ) (m new : ActorOf O) → get_elem? actors k ≡ some m
      → ((x : ℕ) → value_after O (effects_left_of O new) n x ≡ value_after O (effects_left_of O m) n x)
      → completed_word O (set actors k new) n v ≡ completed_word O actors n v
  same_done [] k n v m new at same = refl
  same_done (x ∷ actors) zero n v m new at same =
      ap (completed_word O actors n) (same v ∙ ap (λ (y : ActorOf O). value_after O (effects_left_of O y) n v) (sym (some-injective x m at)))
  same_done (x ∷ actors) (suc k) n v m new at same = same_done actors k n (value_after O (effects_left_of O x) n v) m new at same
