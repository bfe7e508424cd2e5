use Rattle.std.specs.Prelude.{◌≡◌, ℕ, ◌-◌, ◌<◌, ◌≤◌, ◌==◌, if◌then◌else◌, List, [], ◌∷◌, slice_index, slice_set, fold}
use Rattle.xbar_equip.specs.Crosspoint.{crosspoints}
use Rattle.xbar_equip.specs.declared.path.Path.{Path}
use Rattle.xbar_equip.specs.declared.crosspoint.Crosspoint.{Crosspoint}
use Rattle.xbar_switch.specs.Shape.{places}
use Rattle.xbar_switch.specs.Field.{with_closed, with_open}
use Rattle.xbar_match.specs.Switches.{shape_at, held_at}

-- a crosspoint that exists: one of a switch's ten fields, with a value for one of the switch's
-- places
pub record IsCrosspoint (c : Crosspoint) : Type 0 where
  pub word : c.word < 400
  pub field : c.field < 10
  pub closed : 0 < c.value
  pub place : c.value ≤ places (shape_at c.word)

-- the word of a crosspoint's switch after the crosspoint is closed
abbrev pub closed_word : Crosspoint → ℕ → ℕ
closed_word c word = with_closed (shape_at c.word) word c.field (c.value - 1)

-- the word of a crosspoint's switch after the crosspoint is opened
abbrev pub opened_word : Crosspoint → ℕ → ℕ
opened_word c word = with_open (shape_at c.word) word c.field

-- word n after the crosspoint is closed: unchanged if the crosspoint is in another word
abbrev pub close_in : ℕ → ℕ → Crosspoint → ℕ
close_in n word c = if c.word == n then closed_word c word else word

-- word n after the crosspoint is opened: unchanged if the crosspoint is in another word
abbrev pub open_in : ℕ → ℕ → Crosspoint → ℕ
open_in n word c = if c.word == n then opened_word c word else word

-- word n after the four crosspoints of a path are closed
unfoldable pub close_path_in : ℕ → ℕ → Path → ℕ
close_path_in n word path = fold (close_in n) word (crosspoints path)

-- word n after the four crosspoints of a path are opened
unfoldable pub open_path_in : ℕ → ℕ → Path → ℕ
open_path_in n word path = fold (open_in n) word (crosspoints path)

-- the words after the crosspoint is closed
abbrev pub close_at : List ℕ → Crosspoint → List ℕ
close_at words c = slice_set words c.word (closed_word c (slice_index words c.word))

-- the words after the crosspoint is opened
abbrev pub open_at : List ℕ → Crosspoint → List ℕ
open_at words c = slice_set words c.word (opened_word c (slice_index words c.word))

-- the words after the four crosspoints of a path are closed, in order
unfoldable pub close_path : List ℕ → Path → List ℕ
close_path words path = fold close_at words (crosspoints path)

-- the words after the four crosspoints of a path are opened, in order
unfoldable pub open_path : List ℕ → Path → List ℕ
open_path words path = fold open_at words (crosspoints path)

-- the crosspoints can be closed one after another: each is at a field that is then open
abbrev pub EachCloses : List ℕ → List Crosspoint → Type 0
EachCloses words [] = Unit {0}
EachCloses words (c ∷ cs) = (held_at words c.word c.field ≡ 0) × EachCloses (close_at words c) cs

-- the crosspoints can be opened one after another: each is then closed
abbrev pub EachOpens : List ℕ → List Crosspoint → Type 0
EachOpens words [] = Unit {0}
EachOpens words (c ∷ cs) = (held_at words c.word c.field ≡ c.value) × EachOpens (open_at words c) cs
