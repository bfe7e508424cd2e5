use Rattle.std.proofs.Common.{◌≡◌, ◌≢◌, ℕ, suc, ◌<◌, ◌⊎◌, List, length, set, slice_set, sym, ap, inl, inr, ◌∙◌, subst, length-set, Some}
use mathlib.Core.Option.{some}
use lib.ListN.{get_elem?}
use Rattle.turns.specs.{Among.IsIn, System.{System, IsSystem}, Attempt.{AttemptOf, request_in}, World.{World, Does, effects_left_of}}
use Rattle.turns.{specs.Law.{Holds, IsShared, IsSound, Lawful, holder_at, word_at}, proofs.Lists.{one_or_two, index_same, index_other}}
use Rattle.turns.proofs.{Settings.{TellsOthers, TellsOwn, renewed, shared_here, shared_on}, Words.set_below, Quiet.{Quiet, few_actors, kept, other_sound}}

module _ (O : System) (system : IsSystem O) where
  open O use {Lock, IsLock, Protects, lock_word, sharing}

  -- a word under a lock is no lock's own word, and not the turn word
  pub no_lock_word : (n : ℕ) (lock c : Lock) → IsLock c → Protects lock n → n ≢ lock_word c
  no_lock_word n lock c there e is = system.words.lock_word_bare c lock there (subst (Protects lock) is e)

  pub no_turn : (n : ℕ) (lock : Lock) → Protects lock n → n ≢ O.turn_word
  no_turn n lock e is = system.words.turn_bare lock (subst (Protects lock) is e)

  module _ (words : List ℕ) (long : length words ≡ O.size) (c : Lock) (is : IsLock c) (v : ℕ) where
    -- a lock's word is set: nothing else changes
    pub lock_quiet : Quiet O words (slice_set words (lock_word c) v)
    lock_quiet = record {
      long = length-set words (lock_word c) v;
      turns = index_other words (lock_word c) O.turn_word v (λ e. system.words.turn_apart c is (sym e));
      under = λ n lock e. index_other words (lock_word c) n v (no_lock_word n lock c is e);
    }

    pub word_here : word_at O (slice_set words (lock_word c) v) c ≡ v
    word_here = index_same words (lock_word c) v (subst (λ (l : ℕ). lock_word c < l) (sym long) (system.words.lock_word_there c is))

    pub word_else : (lock : Lock) → IsLock lock → ¬ (lock ≡ c) → word_at O (slice_set words (lock_word c) v) lock ≡ word_at O words lock
    word_else lock there apart = index_other words (lock_word c) (lock_word lock) v (λ e. apart (system.words.one_lock_word lock c there is e))

    -- two locks are one, or are not
    pub here_or_else : (lock : Lock) → IsLock lock → (lock ≡ c) ⊎ ¬ (lock ≡ c)
    here_or_else lock there = elim (one_or_two (lock_word lock) (lock_word c)) [
      | inl e ↦ inl (system.words.one_lock_word lock c there is e)
      | inr apart ↦ inr (λ e. apart (ap lock_word e))
    ]

    -- its holder stays: all holders stay
    pub holders_stay : sharing.holder v ≡ holder_at O words c → (lock : Lock) → IsLock lock
        → holder_at O (slice_set words (lock_word c) v) lock ≡ holder_at O words lock
    holders_stay same lock there = elim (here_or_else lock there) [
      | inl e ↦ subst (λ (x : Lock). holder_at O (slice_set words (lock_word c) v) x ≡ holder_at O words x) (sym e) (ap sharing.holder word_here ∙ same)
      | inr apart ↦ ap sharing.holder (word_else lock there apart)
    ]

  module _ (w : World O) (law : Lawful O w) (k number : ℕ) (a : AttemptOf O) (there : get_elem? w.actors k ≡ some (Does number a)) (c : Lock) where
    -- a lock whose word names nobody is held by nobody
    pub free_apart : holder_at O w.words c ≡ 0 → (j i : ℕ) (b : AttemptOf O) → get_elem? w.actors j ≡ some (Does i b) → (lock : Lock) → IsIn lock b.held
        → ¬ (lock ≡ c)
    free_apart free j i b at lock within e =
        let h = ((law.sound j i b at).held lock within).names in
        let f : holder_at O w.words lock ≡ holder_at O w.words c = ap (holder_at O w.words) e in
        let x : suc j ≡ 0 = sym h ∙ f ∙ free in
        cc

    -- a lock of actor k is held by no other
    pub mine_apart : IsIn c a.held → (j i : ℕ) (b : AttemptOf O) → j ≢ k → get_elem? w.actors j ≡ some (Does i b) → (lock : Lock) → IsIn lock b.held
        → ¬ (lock ≡ c)
    mine_apart own j i b apart at lock within e =
        let h = ((law.sound j i b at).held lock within).names in
        let g = ((law.sound k number a there).held c own).names in
        let f : holder_at O w.words lock ≡ holder_at O w.words c = ap (holder_at O w.words) e in
        let x : suc j ≡ suc k = sym h ∙ f ∙ g in
        let y : j ≡ k = cc in
        apart y

    -- what a move of actor k on a lock's own word has to keep
    pub record Locks (v : ℕ) (new : AttemptOf O) : Type 0 where
      pub left : effects_left_of O (Does number new) ≡ effects_left_of O (Does number a)
      pub sound : IsSound O (renewed O w (slice_set w.words (lock_word c) v) w.order k number new) k number new
      -- the word that it leaves is a lock's word that names its holder
      pub is_word : sharing.IsWord v
      pub named : (j : ℕ) → sharing.holder v ≡ suc j → Holds O (set w.actors k (Does number new)) j c
      -- no other actor's lock has another holder, and no other lock is given up
      pub spares : (j i : ℕ) (b : AttemptOf O) → j ≢ k → get_elem? w.actors j ≡ some (Does i b) → (lock : Lock) → IsLock lock → IsIn lock b.held
          → holder_at O (slice_set w.words (lock_word c) v) lock ≡ holder_at O w.words lock
      pub keeps : (lock : Lock) → ¬ (lock ≡ c) → IsIn lock a.held → IsIn lock new.held
      -- its request is in the word exactly if it is pending, and it is pending for no other lock,
      -- before or after
      pub own : TellsOwn O k c v (request_in new.phase)
      pub others : TellsOthers O k (word_at O w.words c) v
      pub before : (lock : Lock) → request_in a.phase ≡ Some lock → lock ≡ c
      pub then : (lock : Lock) → request_in new.phase ≡ Some lock → lock ≡ c

    module _ (is : IsLock c) (v : ℕ) (new : AttemptOf O) (h : Locks v new) where
      abbrev other : List ℕ
      other = slice_set w.words (lock_word c) v

      quiet : Quiet O w.words other
      quiet = lock_quiet w.words law.size c is v

      shared_at : (lock : Lock) → IsLock lock → (lock ≡ c) ⊎ ¬ (lock ≡ c) → IsShared O (renewed O w other w.order k number new) lock
      shared_at lock at (inl e) =
          subst (IsShared O (renewed O w other w.order k number new)) (sym e)
          (shared_here O w k (Does number a) there other w.order number new c v (law.shared c is) (word_here w.words law.size c is v) h.is_word h.named h.own
          h.others)
      shared_at lock at (inr apart) =
          shared_on O w k (Does number a) there other w.order number new lock (law.shared lock at) (word_else w.words law.size c is v lock at apart)
          (h.keeps lock apart)
          ((λ e. absurd (apart (h.before lock e))), (λ e. absurd (apart (h.then lock e))))
          (few_actors O w law k (Does number a) there)

      -- a move on a lock's own word keeps the law
      pub locks : Lawful O (renewed O w other w.order k number new)
      locks =
          kept O system w law k (Does number a) there number new other quiet
          (set_below w.words (lock_word c) v law.are_words (system.sharing.word_below v h.is_word)) h.left h.sound
          (λ j i b apart at. other_sound O system w law k (Does number a) there number new other quiet j i b at (h.spares j i b apart at))
          (λ lock at. shared_at lock at (here_or_else w.words law.size c is v lock at))
