use Rattle.std.specs.Prelude.{ℕ, ◌<◌, ◌/◌, ◌%◌, ◌==◌, ◌&&◌, ◌||◌, nat_lt, not, Bool, Option, List, [], ◌∷◌, length, slice_index}
use Rattle.std.specs.Ordering.{nat_cmp, ordering_then}
use Rattle.std.specs.declared.cmp.Ordering.{Ordering}
use Rattle.xbar_equip.specs.Digits.{digit, are_digits}
use Rattle.xbar_equip.specs.Fault.{first_fault}
use Rattle.xbar_equip.specs.declared.fault.EquipFault.{EquipFault}

-- a line, by its line link frame, its line switch and its place on that switch
pub record Line : Type 0 where
  pub frame : ℕ
  pub switch : ℕ
  pub x : ℕ

-- the line exists: there are ten frames of ten line switches with thirty places each
pub record IsLine (line : Line) : Type 0 where
  pub frame : line.frame < 10
  pub switch : line.switch < 10
  pub x : line.x < 30

-- `IsLine` as a test
abbrev pub is_line : Line → Bool
is_line line = nat_lt line.frame 10 && nat_lt line.switch 10 && nat_lt line.x 30

-- the text of a line, a digit each: frame, horizontal group (the switch), vertical group and
-- vertical file, with x = 5 * group + file
abbrev pub line_text : Line → List ℕ
line_text line = digit line.frame ∷ digit line.switch ∷ digit (line.x / 5) ∷ digit (line.x % 5) ∷ []

-- the fault, if any, of a line's text: its vertical group is at most 5, its vertical file at most
-- 4
abbrev pub line_fault : List ℕ → Option EquipFault
line_fault text =
    first_fault (not (length text == 4)) (not (are_digits text))
    (nat_lt (digit 5) (slice_index text 2) || nat_lt (digit 4) (slice_index text 3))

-- whether two lines are the same
abbrev pub line_eq : Line → Line → Bool
line_eq a b = a.frame == b.frame && a.switch == b.switch && a.x == b.x

-- the order of lines, by frame, then switch, then place, which is also the order of their texts
abbrev pub line_cmp : Line → Line → Ordering
line_cmp a b =
    ordering_then (nat_cmp a.frame b.frame)
    (ordering_then (nat_cmp a.switch b.switch) (nat_cmp a.x b.x))
