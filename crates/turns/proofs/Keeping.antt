use Rattle.std.proofs.Common.{◌≡◌, ℕ, ◌<◌, ◌^◌, Bool, true, false, List, [], ◌∷◌, ◌++◌, inl, inr, refl, sym, subst, Option, Some, None, ◌||◌, Result, Ok, Err}
use Rattle.turns.specs.{Among.IsIn, Seen.{Seen, AreReadWords}, Script.{Script, Ends, TestThen, SeizeThen, ◌>>=◌, is_held, value_read, left, left_of_test}}
use Rattle.turns.specs.{Script.{left_of_seizing, first_wanted, walk}, System.{System, IsUnder, KeepsTo}, declared.wanted.Wanted.Wanted}
use Rattle.turns.{specs.declared.wanted.Wanted.TheVariants.{Seize, Test}, proofs.{Lists.in_either, Words.value_read-below}}

-- all of these are among those
abbrev pub AreAmong : {A : Type 0} → List A → List A → Type 0
AreAmong {A} some all = (x : A) → IsIn x some → IsIn x all

-- a lock that passes the test for held locks is among those held
pub held_in : {Lock : Type 0} (same : Lock → Lock → Bool) (one_lock : (a b : Lock) → same a b ≡ true → a ≡ b) (held : List Lock) (lock : Lock)
    → is_held same held lock ≡ true → IsIn lock held
unfolding is_held
held_in same one_lock [] lock e = cc
held_in {Lock} same one_lock (own ∷ held) lock e = at (same own lock) refl (held_in same one_lock held lock) e where
  at : (b : Bool) → same own lock ≡ b → (is_held same held lock ≡ true → IsIn lock held) → (b || is_held same held lock) ≡ true → IsIn lock (own ∷ held)
  at true one later found = inl (sym (one_lock own lock one))
  at false other later found = inr (later found)

module _ (O : System) where
  open O use {Lock, IsLock}

  -- what is under some locks is under more
  pub under_more : (held more : List Lock) (number : ℕ) → AreAmong held more → IsUnder O held number → IsUnder O more number
  under_more held more number among under = record { lock = under.lock; protects = under.protects; held = among under.lock under.held }

  -- a script and then another keeps to what the first one's ends let the second one keep to
  pub keeps_bind : {A B : Type 0} (Fits : List Lock → B → Type 0) (held : List Lock) (script : Script Lock A) (next : A → Script Lock B)
      → KeepsTo O (λ locks found. KeepsTo O Fits locks (next found)) held script → KeepsTo O Fits held (script >>= next)
  unfolding KeepsTo ◌>>=◌
  keeps_bind Fits held (Ends found) next keeps = keeps
  keeps_bind Fits held (TestThen word script) next keeps = (keeps.0, λ value below. keeps_bind Fits held (script value) next (keeps.1 value below))
  keeps_bind Fits held (SeizeThen lock script) next keeps = (keeps.0, keeps_bind Fits (held ++ lock ∷ []) script next keeps.1)

  -- a script keeps to what follows from what it keeps to
  pub keeps_map : {A : Type 0} (Fits More : List Lock → A → Type 0) (held : List Lock) (script : Script Lock A)
      → ((locks : List Lock) (found : A) → Fits locks found → More locks found) → KeepsTo O Fits held script → KeepsTo O More held script
  unfolding KeepsTo
  keeps_map Fits More held (Ends found) more keeps = more held found keeps
  keeps_map Fits More held (TestThen word script) more keeps = (keeps.0, λ value below. keeps_map Fits More held (script value) more (keeps.1 value below))
  keeps_map Fits More held (SeizeThen lock script) more keeps = (keeps.0, keeps_map Fits More (held ++ lock ∷ []) script more keeps.1)

  -- the end of a walk fits locks that are held
  pub record FitsHeld {A : Type 0} (Fits : List Lock → A → Type 0) (held : List Lock) (found : A) : Type 0 where
    pub some : List Lock
    pub among : AreAmong some held
    pub fits : Fits some found

  -- what a walk comes to: an end that fits, a word that may be tested, or a lock that there is
  abbrev pub WalkFits : {A : Type 0} → (List Lock → A → Type 0) → List Lock → Result A (Wanted Lock ℕ) → Type 0
  WalkFits Fits held (Ok found) = FitsHeld Fits held found
  WalkFits Fits held (Err (Test word)) = IsUnder O held word
  WalkFits Fits held (Err (Seize lock)) = IsLock lock

  -- what was read in the words under what is held has 64 bits
  abbrev pub HasReadWords : Seen Lock → Type 0
  HasReadWords seen =
      (word value : ℕ) → IsUnder O seen.held word →
      value_read seen.readings word ≡ Some value → value < 2 ^ 64

  module _ (one_lock : (a b : Lock) → O.same a b ≡ true → a ≡ b) {A : Type 0} (Fits : List Lock → A → Type 0) (seen : Seen Lock)
      (read : HasReadWords seen) where
    keeps_test : (word : ℕ) (script : ℕ → Script Lock A) (o : Option ℕ) → value_read seen.readings word ≡ o → IsUnder O seen.held word
        → ((value : ℕ) → value < 2 ^ 64 → WalkFits Fits seen.held (walk O.same seen (script value)))
        → WalkFits Fits seen.held (first_wanted (left_of_test script (λ value. left O.same seen (script value)) word o))
    unfolding walk left_of_test first_wanted
    keeps_test word script None is under later = under
    keeps_test word script (Some value) is under later = later value (read word value under is)

    keeps_seizing : (lock : Lock) (script : Script Lock A) (b : Bool) → IsLock lock → (b ≡ true → WalkFits Fits seen.held (walk O.same seen script))
        → WalkFits Fits seen.held (first_wanted (left_of_seizing script (left O.same seen script) lock b))
    unfolding walk left_of_seizing first_wanted
    keeps_seizing lock script false range later = range
    keeps_seizing lock script true range later = later refl

    with_lock : (held : List Lock) (lock : Lock) → AreAmong held seen.held → IsIn lock seen.held → AreAmong (held ++ lock ∷ []) seen.held
    with_lock held lock among own c within = elim (in_either c held (lock ∷ []) within) [
      | inl front ↦ among c front
      | inr (inl e) ↦ subst (λ (x : Lock). IsIn x seen.held) (sym e) own
      | inr (inr none) ↦ absurd none
    ]

    -- a walk through a script that keeps to what is held comes to what fits
    pub walk_fits : (held : List Lock) (script : Script Lock A) → AreAmong held seen.held → KeepsTo O Fits held script
        → WalkFits Fits seen.held (walk O.same seen script)
    unfolding walk left first_wanted KeepsTo
    walk_fits held (Ends found) among keeps = record { some = held; among = among; fits = keeps }
    walk_fits held (TestThen word script) among keeps =
        keeps_test word script (value_read seen.readings word) refl (under_more held seen.held word among keeps.0)
        (λ value below. walk_fits held (script value) among (keeps.1 value below))
    walk_fits held (SeizeThen lock script) among keeps =
        keeps_seizing lock script (is_held O.same seen.held lock) keeps.0
        (λ own. walk_fits (held ++ lock ∷ []) script (with_lock held lock among (held_in O.same one_lock seen.held lock own)) keeps.1)

  -- and so does one over readings that all have 64 bits
  pub walk_keeps : (one_lock : (a b : Lock) → O.same a b ≡ true → a ≡ b) {A : Type 0}
      (Fits : List Lock → A → Type 0) (seen : Seen Lock) → AreReadWords seen.readings →
      (held : List Lock) (script : Script Lock A) → AreAmong held seen.held → KeepsTo O Fits held script →
      WalkFits Fits seen.held (walk O.same seen script)
  walk_keeps one_lock Fits seen read held script among keeps =
      walk_fits one_lock Fits seen (λ word value under is. value_read-below seen.readings word value read is)
      held script among keeps
