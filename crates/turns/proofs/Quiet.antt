use Rattle.std.proofs.Common.{◌≡◌, ◌≢◌, ◌↔◌, ℕ, ◌<◌, ◌≤◌, List, length, slice_index, sym, refl, ap, ◌∙◌, subst, length-set, lt_of_lt_of_le, Some}
use mathlib.Core.Option.{some}
use lib.ListN.{get_elem?}
use Rattle.turns.specs.{Among.IsIn, Clock.IsCount, System.{System, IsSystem, AreAlike, AreWords}, Attempt.{AttemptOf, request_in}}
use Rattle.turns.specs.{World.{World, ActorOf, Does, effects_left_of, value_after, completed, completed_word}, Law.{IsShared, IsSound, Lawful, holder_at}}
use Rattle.turns.proofs.{Lists.there_below, Completed.{completed_index, completed_length, same_done}, Sound.sound_along}
use Rattle.turns.proofs.Settings.{all_sound, held_of, renewed, request_of, shared_on}

module _ (O : System) where
  open O use {Lock, IsLock, Protects, sharing}

  -- whatever is under a lock, and the turn word, stay
  pub record Quiet (words other : List ℕ) : Type 0 where
    pub long : length other ≡ length words
    pub turns : slice_index other O.turn_word ≡ slice_index words O.turn_word
    pub under : (n : ℕ) (lock : Lock) → Protects lock n → slice_index other n ≡ slice_index words n

  pub quiet_same : (words : List ℕ) → Quiet words words
  quiet_same words = record { long = refl; turns = refl; under = λ n lock e. refl }

  -- worlds that are the same to every protected word, completed
  pub alike : (system : IsSystem O) (w v : World O) → length w.words ≡ O.size → length v.words ≡ O.size
      → ((n : ℕ) (lock : Lock) → Protects lock n → completed_word O w.actors n (slice_index w.words n) ≡ completed_word O v.actors n (slice_index v.words n))
      → AreAlike O (completed O w) (completed O v)
  alike system w v this that same = record {
    this_length = completed_length O w.actors 0 w.words ∙ this;
    that_length = completed_length O v.actors 0 v.words ∙ that;
    under = λ n lock e.
        let below = system.words.word_there n lock e in
        completed_index O w n (subst (λ (l : ℕ). n < l) (sym this) below) ∙ same n lock e
        ∙ sym (completed_index O v n (subst (λ (l : ℕ). n < l) (sym that) below));
  }

  -- each actor of the world is one of those that may share a lock's word
  pub few_actors : (w : World O) → Lawful O w → (k : ℕ) (m : ActorOf O) → get_elem? w.actors k ≡ some m → k < sharing.most
  few_actors w law k m there = lt_of_lt_of_le (there_below w.actors k m there) law.few

  module _ (system : IsSystem O) (w : World O) (law : Lawful O w) (k : ℕ) (m : ActorOf O) (there : get_elem? w.actors k ≡ some m) (number : ℕ)
      (new : AttemptOf O) where
    -- a move that leaves what is under locks, and the effects that are left, as they were
    pub kept : (other : List ℕ) → Quiet w.words other → AreWords other → effects_left_of O (Does number new) ≡ effects_left_of O m
        → IsSound O (renewed O w other w.order k number new) k number new
        → ((j i : ℕ) (b : AttemptOf O) → j ≢ k → get_elem? w.actors j ≡ some (Does i b) → IsSound O (renewed O w other w.order k number new) j i b)
        → ((lock : Lock) → IsLock lock → IsShared O (renewed O w other w.order k number new) lock) → Lawful O (renewed O w other w.order k number new)
    kept other quiet are left own others shared = record {
      few = subst (λ (l : ℕ). l ≤ sharing.most) (sym (length-set w.actors k (Does number new))) law.few;
      size = quiet.long ∙ law.size;
      are_words = are;
      turn = subst (λ (n : ℕ). IsCount O.clock n (length w.order)) (sym quiet.turns) law.turn;
      legal = law.legal;
      shows =
          system.looks (completed O w) (completed O (renewed O w other w.order k number new)) _
          (alike system w (renewed O w other w.order k number new) law.size (quiet.long ∙ law.size) (λ n lock e.
          ap (completed_word O w.actors n) (sym (quiet.under n lock e)) ∙
          sym (same_done O w.actors k n (slice_index other n) m (Does number new) there
          (λ x. ap (λ (effects : List O.Effect). value_after O effects n x) left)))) law.shows;
      sound = all_sound O w k m there other w.order number new own others;
      shared = shared;
    }

    -- an attempt of another actor is still sound, if its locks have the same holders
    pub other_sound : (other : List ℕ) → Quiet w.words other → (j i : ℕ) (b : AttemptOf O) → get_elem? w.actors j ≡ some (Does i b)
        → ((lock : Lock) → IsLock lock → IsIn lock b.held → holder_at O other lock ≡ holder_at O w.words lock)
        → IsSound O (renewed O w other w.order k number new) j i b
    other_sound other quiet j i b at holders = sound_along O system w (renewed O w other w.order k number new) j i b (record {
      this = law.size;
      that = quiet.long ∙ law.size;
      holders = holders;
      under = λ n u. quiet.under n u.lock u.protects;
      order = λ place r e. e;
    }) (law.sound j i b at)

    -- a move that changes no word, nothing that is held, and no request
    pub still : effects_left_of O (Does number new) ≡ effects_left_of O m → IsSound O w k number new
        → ((lock : Lock) → IsIn lock (held_of O m) → IsIn lock new.held) → ((lock : Lock) → (request_of O m ≡ Some lock) ↔ (request_in new.phase ≡ Some lock))
        → Lawful O (renewed O w w.words w.order k number new)
    still left own more asks = kept w.words (quiet_same w.words) law.are_words left
        (sound_along O system w (renewed O w w.words w.order k number new) k number new
        (record { this = law.size; that = law.size; holders = λ lock is within. refl; under = λ n u. refl; order = λ place r e. e }) own)
        (λ j i b apart at. other_sound w.words (quiet_same w.words) j i b at (λ lock is within. refl))
        (λ lock is. shared_on O w k m there w.words w.order number new lock (law.shared lock is) refl (more lock) (asks lock) (few_actors w law k m there))
