use Rattle.std.specs.Prelude.{◌≡◌, ℕ, ◌<◌, ◌⊎◌, List, slice_index}
use Rattle.xbar_equip.specs.Among.{IsIn}
use Rattle.xbar_equip.specs.Path.{IsPath}
use Rattle.xbar_equip.specs.Crosspoint.{crosspoints}
use Rattle.xbar_equip.specs.declared.path.Path.{Path}
use Rattle.xbar_equip.specs.declared.crosspoint.Crosspoint.{Crosspoint}
use Rattle.xbar_switch.specs.Field.{field_of, above_fields}
use Rattle.xbar_match.specs.Switches.{shape_at}

-- the numbers of each of the paths are in range
abbrev pub AreInRange : List Path → Type 0
AreInRange paths = (path : Path) → IsIn path paths → IsPath path

-- the crosspoint is one of these paths'
abbrev pub IsClosedIn : List Path → Crosspoint → Type 0
IsClosedIn paths c = (path : Path) × IsIn path paths × IsIn c (crosspoints path)

-- the word of switch n shows what is closed: the field of each closed crosspoint holds its value,
-- all other fields are 0, and no bit above the fields is set
pub record WordShows (IsClosed : Crosspoint → Type 0) (n word : ℕ) : Type 0 where
  pub closed : (c : Crosspoint) → IsClosed c → c.word ≡ n
      → field_of (shape_at n) word c.field ≡ c.value
  pub others : (v : ℕ) → v < 10 → (field_of (shape_at n) word v ≡ 0)
      ⊎ IsClosed (record { word = n; field = v; value = field_of (shape_at n) word v })
  pub above : above_fields (shape_at n) word ≡ 0

-- the 400 switch words show the paths; the words after them play no part
pub record ShowsPaths (words : List ℕ) (paths : List Path) : Type 0 where
  pub switch : (n : ℕ) → n < 400 → WordShows (IsClosedIn paths) n (slice_index words n)
