use Rattle.std.proofs.Common.{◌≡◌, ◌≢◌, ℕ, ◌<◌, ◌≤◌, ◌⊎◌, List, [], ◌∷◌, ◌++◌, length, set, slice_index, slice_set, sym, refl, ap, inl, inr, ◌∙◌, subst}
use Rattle.std.proofs.Common.{length-set, append_assoc, Option}
use mathlib.Core.Option.{some}
use lib.ListN.{get_elem?}
use Rattle.turns.specs.{System.{System, effect_on, IsSystem, AreWords, IsUnder, AreUnder}, Clock.IsCount, Attempt.{AttemptOf, IsValid}}
use Rattle.turns.specs.World.{World, ActorOf, Idle, Does, effects_left_of, value_after, completed, completed_word}
use Rattle.turns.specs.{Law.{IsOperating, IsSound, Lawful, holder_at, word_at}, declared.{phase.Phase.TheVariants.Operates, reading.Reading.Reading}}
use Rattle.turns.proofs.{Lists.{in_more, one_or_two, set_here, set_else, index_same, index_other}, Completed.{Spares, made_append, made_here, made_else}}
use Rattle.turns.proofs.{Completed.{under_spares, only_one, same_done}, Words.{applied_below, set_below}, Sound.{sound_along, left_under, one_actor}}
use Rattle.turns.proofs.{Settings.{all_sound, renewed, shared_on}, Quiet.{alike, few_actors}, Locking.{no_lock_word, no_turn}}

module _ (O : System) (system : IsSystem O) (w : World O) (law : Lawful O w) (k number : ℕ) where
  open O use {Lock, Job, Reply, Effect, IsLock, lock_word, effect_word}

  -- a word under a lock of actor k is spared by all other actors
  pub others_spare : (a : AttemptOf O) → get_elem? w.actors k ≡ some (Does number a) → (n : ℕ) → IsUnder O a.held n → (j : ℕ) (other : ActorOf O) → j ≢ k
      → get_elem? w.actors j ≡ some other → Spares O (effects_left_of O other) n
  others_spare a there n under j Idle apart at = λ v. refl
  others_spare a there n under j (Does i b) apart at =
      let s = law.sound j i b at in
      under_spares O b.held _ n (left_under O w j i b s) (λ over. apart (one_actor O system w j k n i number b a s (law.sound k number a there) over under))

  -- .. also once actor k has moved
  pub others_spare_then : (a new : AttemptOf O) → get_elem? w.actors k ≡ some (Does number a) → (n : ℕ) → IsUnder O a.held n → (j : ℕ) (other : ActorOf O)
      → j ≢ k → get_elem? (set w.actors k (Does number new)) j ≡ some other → Spares O (effects_left_of O other) n
  others_spare_then a new there n under j other apart at = others_spare a there n under j other apart (sym (set_else w.actors k j (Does number new) apart) ∙ at)

  -- past its turn
  abbrev pub operating : Job → List (Reading ℕ) → List Lock → ℕ → Option Reply → List Effect → AttemptOf O
  operating job readings held turn reply effects =
      record { job = job; readings = readings; held = held; phase = Operates turn; reply = reply; effects = effects }

  module _ (job : Job) (readings : List (Reading ℕ)) (held : List Lock) (turn : ℕ) (reply : Option Reply) (effect : Effect) (effects : List Effect)
      (there : get_elem? w.actors k ≡ some (Does number (operating job readings held turn reply (effect ∷ effects))))
      (valid : IsValid O (operating job readings held turn reply effects)) where
    abbrev old : AttemptOf O
    old = operating job readings held turn reply (effect ∷ effects)

    abbrev new : AttemptOf O
    new = operating job readings held turn reply effects

    abbrev p : ℕ
    p = effect_word effect

    abbrev other : List ℕ
    other = slice_set w.words p (effect_on O effect (slice_index w.words p))

    abbrev then : World O
    then = renewed O w other w.order k number new

    fits : IsOperating O w.words w.order k number turn old
    fits = (law.sound k number old there).fits

    under : IsUnder O held p
    under = fits.under effect (inl refl)

    p_there : p < length w.words
    p_there = subst (λ (l : ℕ). p < l) (sym law.size) (system.words.word_there p under.lock under.protects)

    else_same : (n : ℕ) → n ≢ p → slice_index other n ≡ slice_index w.words n
    else_same n apart = index_other w.words p n (effect_on O effect (slice_index w.words p)) apart

    lock_words : (lock : Lock) → IsLock lock → word_at O other lock ≡ word_at O w.words lock
    lock_words lock is = else_same (lock_word lock) (λ e. no_lock_word O system p under.lock lock is under.protects (sym e))

    holders : (lock : Lock) → IsLock lock → holder_at O other lock ≡ holder_at O w.words lock
    holders lock is = ap O.sharing.holder (lock_words lock is)

    long : length other ≡ O.size
    long = length-set w.words p (effect_on O effect (slice_index w.words p)) ∙ law.size

    are_words : AreWords other
    are_words =
        set_below w.words p (effect_on O effect (slice_index w.words p)) law.are_words
        (applied_below (O.operation_of effect) (slice_index w.words p) (fits.fit effect (inl refl)) (law.are_words p))

    -- the words under the locks held are what the effects made so far, and this one, make of the
    -- words at the turn
    since : (n : ℕ) → IsUnder O held n → slice_index other n ≡ value_after O (fits.decided.made ++ effect ∷ []) n (slice_index fits.decided.words n)
    since n over = by (one_or_two p n) ∙ sym (made_append O fits.decided.made (effect ∷ []) n (slice_index fits.decided.words n)) where
      v : ℕ
      v = value_after O fits.decided.made n (slice_index fits.decided.words n)

      by : (p ≡ n) ⊎ (p ≢ n) → slice_index other n ≡ value_after O (effect ∷ []) n v
      by (inl e) =
          subst (λ (m : ℕ). slice_index other m ≡ effect_on O effect (slice_index w.words m)) e
          (index_same w.words p (effect_on O effect (slice_index w.words p)) p_there)
          ∙ ap (effect_on O effect) (fits.decided.since n over)
          ∙ sym (made_here O effect [] n v e)
      by (inr apart) = else_same n (λ e. apart (sym e)) ∙ fits.decided.since n over ∙ sym (made_else O effect [] n v apart)

    -- the effects made so far, and this one, are on words under the locks held
    made_under : AreUnder O held (fits.decided.made ++ effect ∷ [])
    made_under e within = elim (in_more e effect fits.decided.made within) [
      | inl before ↦ fits.decided.under effect (inl refl) e before
      | inr same ↦ subst (λ (x : Effect). IsUnder O held (effect_word x)) (sym same) under
    ]

    own : IsSound O then k number new
    own =
        let s = law.sound k number old there in
        let known = fits.recorded in
        let decided = fits.decided in
        record {
          job = s.job;
          held = λ lock within. let h = s.held lock within in record { there = h.there; names = holders lock h.there ∙ h.names };
          distinct = s.distinct;
          read = λ r none. absurd none;
          valid = valid;
          fits = record {
            under = λ e within. fits.under e (inr within);
            fit = λ e within. fits.fit e (inr within);
            due = fits.due.1;
            recorded = record {
              place = known.place;
              recorded = known.recorded;
              at_place = known.at_place;
              turn_is = known.turn_is;
              actor = known.actor;
              number_is = known.number_is;
              job = known.job;
              reply = known.reply;
            };
            decided = record {
              words = decided.words;
              size = decided.size;
              are_words = decided.are_words;
              shows = decided.shows;
              made = decided.made ++ effect ∷ [];
              effects = decided.effects ∙ sym (append_assoc decided.made (effect ∷ []) effects);
              under = λ e left. made_under;
              since = since;
            };
          };
        }

    others : (j i : ℕ) (b : AttemptOf O) → j ≢ k → get_elem? w.actors j ≡ some (Does i b) → IsSound O then j i b
    others j i b apart at = sound_along O system w then j i b (record {
      this = law.size;
      that = long;
      holders = λ lock is within. holders lock is;
      under =
          λ n over. else_same n (λ e. apart (one_actor O system w j k n i number b old (law.sound j i b at) (law.sound k number old there) over
          (subst (λ (m : ℕ). IsUnder O held m) (sym e) under)));
      order = λ place r e. e;
    }) (law.sound j i b at)

    -- the completed word is as it was: the one that the effect was made on, and any other
    word_same : (n : ℕ) → (p ≡ n) ⊎ (p ≢ n)
        → completed_word O w.actors n (slice_index w.words n) ≡ completed_word O (set w.actors k (Does number new)) n (slice_index other n)
    word_same n (inl e) =
        let within : IsUnder O held n = subst (λ (m : ℕ). IsUnder O held m) e under in
        let v = slice_index w.words n in
        let before = only_one O w.actors k n v (Does number old) there (others_spare old there n within) in
        let later =
        only_one O (set w.actors k (Does number new)) k n (slice_index other n) (Does number new)
        (set_here w.actors k (Does number new) (Does number old) there) (others_spare_then old new there n within) in
        let now : slice_index other n ≡ effect_on O effect v =
        subst (λ (m : ℕ). slice_index other m ≡ effect_on O effect (slice_index w.words m)) e
        (index_same w.words p (effect_on O effect (slice_index w.words p)) p_there) in
        before ∙ made_here O effect effects n v e ∙ sym (later ∙ ap (value_after O effects n) now)
    word_same n (inr apart) =
        let v = slice_index w.words n in
        sym (ap (completed_word O (set w.actors k (Does number new)) n) (else_same n (λ e. apart (sym e)))
        ∙ same_done O w.actors k n v (Does number old) (Does number new) there (λ x. sym (made_else O effect effects n x apart)))

    -- actor k makes its next effect
    pub makes : Lawful O then
    makes = record {
      few = subst (λ (l : ℕ). l ≤ O.sharing.most) (sym (length-set w.actors k (Does number new))) law.few;
      size = long;
      are_words = are_words;
      turn =
          subst (λ (n : ℕ). IsCount O.clock n (length w.order)) (sym (else_same O.turn_word (λ e. no_turn O system p under.lock under.protects (sym e))))
          law.turn;
      legal = law.legal;
      shows = system.looks (completed O w) (completed O then) _ (alike O system w then law.size long (λ n lock e. word_same n (one_or_two p n))) law.shows;
      sound = all_sound O w k (Does number old) there other w.order number new own others;
      shared =
          λ lock is. shared_on O w k (Does number old) there other w.order number new lock (law.shared lock is) (lock_words lock is) (λ within. within)
          ((λ e. e), (λ e. e)) (few_actors O w law k (Does number old) there);
    }
