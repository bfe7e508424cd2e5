-- words that are laid out in groups are apart, and open as a system's words do
use Rattle.std.proofs.Common.{ℕ, ◌+◌, ◌<◌, sym, ◌∙◌, subst, arith, div-lt_iff_lt-mul}
use Rattle.{std.proofs.lemmas.List.length-replicate, turns.specs.Layouts.{Layout, JobsOver, IsLayout, in_rows, one_each, size_of, zeros_of, laid_out}}
use Rattle.turns.{specs.{Sharing.IsUnused, System.{AreApart, IsInitial, system_of}}, proofs.{OwnSystem.zero_at, Words.zeros_below}}

-- rows of words are a layout, and so are single words
pub rows_are : (groups each : ℕ) → 0 < each → IsLayout (in_rows groups each)
rows_are groups each some word below = (div-lt_iff_lt-mul {k = each} {x = word} {y = groups} some).1 below

pub ones_are : (groups : ℕ) → IsLayout (one_each groups)
ones_are groups word below = below

module _ {Job Reply Effect : Type 0} (L : Layout) (jobs : JobsOver Job Reply Effect) where
  pub words_apart : IsLayout L → AreApart (system_of (laid_out L jobs))
  words_apart is = record {
    one_lock_word = λ a b isa isb e. omega arith;
    lock_word_there = λ a isa. omega arith;
    lock_word_bare = λ a lock isa p. omega arith;
    turn_there = omega arith;
    turn_bare = λ lock p. omega arith;
    turn_apart = λ a isa e. omega arith;
    word_there = λ n lock p. omega arith;
    lock_there = λ n lock p. subst (λ (l : ℕ). l < L.groups) p.0 (is n p.1);
    one_protector = λ n a b p q. sym p.0 ∙ q.0;
  }

  -- words of 0 show the opening state, and a lock's word of 0 is unused
  pub zeros_open : jobs.Shows (zeros_of L) jobs.opening → IsUnused jobs.sharing 0 → IsInitial (system_of (laid_out L jobs))
  zeros_open shows unused = record {
    initial_length = length-replicate (size_of L) 0;
    are_words = zeros_below (size_of L);
    shows = shows;
    unused = λ lock is. subst (IsUnused jobs.sharing) (sym (zero_at (size_of L) (L.words + lock))) unused;
    no_turn = zero_at (size_of L) (L.words + L.groups);
  }
