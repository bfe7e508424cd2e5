use Rattle.std.specs.Prelude.{◌≡◌, ℕ, List, length}
use Rattle.desks.specs.Kept.{IsKept, KnownOf}
use Rattle.xbar_plan.specs.Tables.{Tables}
use Rattle.xbar_jobs.specs.Office.{office}
use Rattle.xbar_moves.specs.Exchange.{Exchange, IsLawfulExchange}

-- what a desk knows of the markers, in the table of shared words
abbrev pub Known : Tables → Type 0
Known plan = KnownOf (office plan)

-- the rule of the table of shared words, opened with `count` desks: what it keeps between any two
-- steps
abbrev pub Keeps : (plan : Tables) → ℕ → List ℕ → List (Known plan) → Type 0
Keeps plan count words known = IsKept (office plan) count words known

-- a lawful office with these words and this number of markers
pub record IsOfficeOn (plan : Tables) (count : ℕ) (words : List ℕ) (e : Exchange) : Type 0 where
  pub lawful : IsLawfulExchange plan e
  pub words_are : e.words ≡ words
  pub count_is : length e.markers ≡ count
