use Rattle.std.proofs.Common.{◌≡◌, ℕ, suc, ◌<◌, List, [], ◌∷◌, length, slice_index, sym, refl, ap, inl, ◌∙◌, subst, Option}
use mathlib.Core.Option.{some}
use lib.ListN.{get_elem?}
use Rattle.turns.specs.{Among.IsIn, System.{System, IsSystem, IsUnder}, Attempt.{AttemptOf, act}, World.{World, ActorOf, Idle, Does, effects_left_of}}
use Rattle.turns.specs.{World.{value_after, completed, after, moved, place}, Law.{IsRecorded, FitsIn, IsOperating, Lawful, WasDecided, holder_at}}
use Rattle.turns.specs.declared.{phase.Phase.{Phase, TheVariants.{Requests, Seizes, Tests, Turns, Withdraws, GivesBack, Operates}}, reading.Reading.Reading}
use Rattle.turns.proofs.{Lists.index_other, Completed.{Spares, under_spares, all_spare, only_one, completed_index, completed_length}, Sound.left_under}
use Rattle.turns.proofs.{Effects.others_spare, Moves.attempt}

module _ (O : System) (system : IsSystem O) (w : World O) (law : Lawful O w) where
  open O use {Lock, Job, Reply, Effect, IsLock, Protects}

  -- the lock that protects a word under what is held is held
  under_held : (n : ℕ) (held : List Lock) (lock : Lock) → IsUnder O held n → Protects lock n → IsIn lock held
  under_held n held lock u p = subst (λ (c : Lock). IsIn c held) (system.words.one_protector n u.lock lock u.protects p) u.held

  below : (n : ℕ) (lock : Lock) → Protects lock n → n < length w.words
  below n lock p = subst (λ (l : ℕ). n < l) (sym law.size) (system.words.word_there n lock p)

  -- a word under a lock that is held: its holder's effects complete it
  pub held_word : (k number : ℕ) (a : AttemptOf O) (n : ℕ) → get_elem? w.actors k ≡ some (Does number a) → IsUnder O a.held n
      → slice_index (completed O w) n ≡ value_after O (effects_left_of O (Does number a)) n (slice_index w.words n)
  held_word k number a n there u =
      completed_index O w n (below n u.lock u.protects)
      ∙ only_one O w.actors k n (slice_index w.words n) (Does number a) there (others_spare O system w law k number a there n u)

  free_spares : (n : ℕ) (lock : Lock) → Protects lock n → holder_at O w.words lock ≡ 0 → (j : ℕ) (m : ActorOf O) → get_elem? w.actors j ≡ some m
      → Spares O (effects_left_of O m) n
  free_spares n lock p free j Idle at = λ v. refl
  free_spares n lock p free j (Does number b) at =
      let s = law.sound j number b at in
      under_spares O b.held _ n (left_under O w j number b s) (λ u.
      let same : u.lock ≡ lock = system.words.one_protector n u.lock lock u.protects p in
      let x = (s.held u.lock u.held).names in
      let y : holder_at O w.words u.lock ≡ holder_at O w.words lock = ap (holder_at O w.words) same in
      let z : suc j ≡ 0 = sym x ∙ y ∙ free in
      cc)

  -- a word under a lock that nobody holds is complete
  pub free_word : (n : ℕ) (lock : Lock) → Protects lock n → holder_at O w.words lock ≡ 0 → slice_index (completed O w) n ≡ slice_index w.words n
  free_word n lock p free = completed_index O w n (below n lock p) ∙ all_spare O w.actors n (slice_index w.words n) (free_spares n lock p free)

  -- if nobody holds a lock, the words themselves show the state after the order
  pub free_shows : ((lock : Lock) → IsLock lock → holder_at O w.words lock ≡ 0) → O.Shows w.words (after O O.opening w.order)
  free_shows free = system.looks (completed O w) w.words _ (record {
    this_length = completed_length O w.actors 0 w.words ∙ law.size;
    that_length = law.size;
    under = λ n lock p. free_word n lock p (free lock (system.words.lock_there n lock p));
  }) law.shows

  module _ (k number : ℕ) where
    -- the lock that protects the word of a step is held, phase by phase
    alone_in : (phase : Phase Lock ℕ) (job : Job) (readings : List (Reading ℕ)) (held : List Lock) (reply : Option Reply) (effects : List Effect) (lock : Lock)
        → get_elem? w.actors k ≡ some (Does number (attempt O phase job readings held reply effects))
        → Protects lock (place O (act (attempt O phase job readings held reply effects))) → IsIn lock held
    alone_in (Requests c) job readings held reply effects lock there p =
        absurd (system.words.lock_word_bare c lock (law.sound k number (attempt O (Requests c) job readings held reply effects) there).fits p)
    alone_in (Seizes c expected) job readings held reply effects lock there p =
        absurd (system.words.lock_word_bare c lock (law.sound k number (attempt O (Seizes c expected) job readings held reply effects) there).fits.0 p)
    alone_in (Tests word) job readings held reply effects lock there p =
        under_held word held lock (law.sound k number (attempt O (Tests word) job readings held reply effects) there).fits p
    alone_in Turns job readings held reply effects lock there p = absurd (system.words.turn_bare lock p)
    alone_in (Withdraws c) job readings held reply effects lock there p =
        absurd (system.words.lock_word_bare c lock (law.sound k number (attempt O (Withdraws c) job readings held reply effects) there).valid p)
    alone_in GivesBack job readings [] reply effects lock there p = absurd (system.words.turn_bare lock p)
    alone_in GivesBack job readings (c ∷ held) reply effects lock there p =
        absurd (system.words.lock_word_bare c lock ((law.sound k number (attempt O GivesBack job readings (c ∷ held) reply effects) there).held c
        (inl refl)).there p)
    alone_in (Operates turn) job readings [] reply [] lock there p = absurd (system.words.turn_bare lock p)
    alone_in (Operates turn) job readings (c ∷ held) reply [] lock there p =
        absurd (system.words.lock_word_bare c lock ((law.sound k number (attempt O (Operates turn) job readings (c ∷ held) reply []) there).held c
        (inl refl)).there p)
    alone_in (Operates turn) job readings held reply (effect ∷ effects) lock there p =
        under_held (O.effect_word effect) held lock ((law.sound k number (attempt O (Operates turn) job readings held reply (effect ∷ effects))
        there).fits.under effect (inl refl)) p

    -- a protected word is tested or changed by its lock's holder alone
    pub alone : (a : AttemptOf O) (lock : Lock) → get_elem? w.actors k ≡ some (Does number a) → Protects lock (place O (act a)) → IsIn lock a.held
    alone a lock there p = alone_in a.phase a.job a.readings a.held a.reply a.effects lock there p

    pub spared : (a : AttemptOf O) (n : ℕ) (lock : Lock) → get_elem? w.actors k ≡ some (Does number a) → Protects lock n → ¬ IsIn lock a.held
        → slice_index (moved O k number a w).words n ≡ slice_index w.words n
    spared a n lock there p apart = index_other w.words _ n _ (λ e. apart (alone a lock there (subst (Protects lock) e p)))

-- what was decided at a turn was decided on words that show the state before it
pub decided_before : (O : System) (w : World O) (k number : ℕ) (a : AttemptOf O) (turn : ℕ) → Lawful O w → get_elem? w.actors k ≡ some (Does number a)
    → a.phase ≡ Operates turn → (known : IsRecorded O w.order k number turn a) × WasDecided O w.words w.order known.place a
decided_before O w k number a turn law there at =
    let fits : IsOperating O w.words w.order k number turn a = subst (FitsIn O w k number a) at (law.sound k number a there).fits in
    (fits.recorded, fits.decided)
