-- marks of the words read: a word without a mark was not read
use Rattle.std.specs.Prelude.{◌≡◌, ◌%◌, ◌==◌, ℕ, Bool, false, List, None}
use Rattle.std.specs.Int.{bit_at}
use Rattle.turns.specs.Script.{value_read}
use Rattle.turns.specs.declared.reading.Reading.{Reading}

-- the mark of a word is set: of the 64 marks, the one of its number modulo 64
abbrev pub has_mark : ℕ → ℕ → Bool
has_mark marks word = bit_at marks (word % 64) == 1

-- each word whose mark is not set was not read
abbrev pub AreMarked : List (Reading ℕ) → ℕ → Type 0
AreMarked readings marks =
    (word : ℕ) → has_mark marks word ≡ false → value_read readings word ≡ None
