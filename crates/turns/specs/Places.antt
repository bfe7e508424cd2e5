-- where a room keeps the words of its system
use Rattle.std.specs.Prelude.{◌≡◌, ℕ, zero, suc, ◌<◌, List, [], ◌∷◌, slice_index}

-- the place of each word in a room's table, and how many places there are. Places that no word has
-- keep words apart, on cache lines of their own.
pub record Places : Type 0 where
  pub place : ℕ → ℕ
  pub count : ℕ

-- each of so many words has a place of its own
pub record ArePlaces (P : Places) (size : ℕ) : Type 0 where
  pub within : (word : ℕ) → word < size → P.place word < P.count
  pub apart : (a b : ℕ) → a < size → b < size → P.place a ≡ P.place b → a ≡ b

-- the words at their places in a table: so many, from this word on
abbrev pub words_from : Places → ℕ → ℕ → List ℕ → List ℕ
words_from P word zero table = []
words_from P word (suc count) table =
    slice_index table (P.place word) ∷ words_from P (suc word) count table

-- the first so many words at their places in a table
abbrev pub words_in : Places → ℕ → List ℕ → List ℕ
words_in P size table = words_from P 0 size table

-- each word in the place of its number
abbrev pub in_place : ℕ → Places
in_place size = record { place = λ word. word; count = size }
