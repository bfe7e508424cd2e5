use Rattle.std.specs.Prelude.{ℕ, zero, suc, ◌+◌, ◌/◌, ◌%◌, ◌==◌, if◌then◌else◌, List, slice_index}
use Rattle.xbar_equip.specs.Word.{LineSwitch}
use Rattle.xbar_switch.specs.Field.{field_of}
use Rattle.xbar_switch.specs.declared.shape.Shape.{Shape}
use Rattle.xbar_switch.specs.declared.shape.Shape.TheVariants.{Line}
use Rattle.xbar_match.specs.Switches.{shape_at, word_of}

-- the sum of f over the numbers below a count
unfoldable pub sum_below : (ℕ → ℕ) → ℕ → ℕ
sum_below f zero = 0
sum_below f (suc n) = sum_below f n + f n

-- the number of closed fields of a word
abbrev pub closed_fields : Shape → ℕ → ℕ
closed_fields shape word = sum_below (λ v. if field_of shape word v == 0 then 0 else 1) 10

-- the number of closed fields of the hundred line switches
abbrev pub closed_line_fields : List ℕ → ℕ
closed_line_fields words =
    sum_below (λ k. closed_fields Line (word_of words (LineSwitch (k / 10) (k % 10)))) 100

-- the number of closed fields of all 400 switches
abbrev pub closed_switch_fields : List ℕ → ℕ
closed_switch_fields words = sum_below (λ n. closed_fields (shape_at n) (slice_index words n)) 400
