use Rattle.std.specs.Prelude.{ℕ, ◌%◌, ◌&&◌, nat_lt, if◌then◌else◌, List, slice_index}
use Rattle.xbar_equip.specs.Word.{Word, word_number}
use Rattle.xbar_switch.specs.Field.{field_of}
use Rattle.xbar_switch.specs.declared.shape.Shape.{Shape}
use Rattle.xbar_switch.specs.declared.shape.Shape.TheVariants.{Line, Other}

-- the shape of switch n, of 400: the first ten of each twenty below 200 are line switches
unfoldable pub shape_at : ℕ → Shape
shape_at n = if nat_lt n 200 && nat_lt (n % 20) 10 then Line else Other

-- the value of field v of switch n
abbrev pub held_at : List ℕ → ℕ → ℕ → ℕ
held_at words n v = field_of (shape_at n) (slice_index words n) v

-- the word with this name, in the list of all words
abbrev pub word_of : List ℕ → Word → ℕ
word_of words name = slice_index words (word_number name)
