-- A section for each turn.
use Rattle.std.specs.Prelude.{ℕ, Option, Some, None, List, [], ◌∷◌, option_map, slice_get}
use Rattle.xbar_equip.specs.declared.path.Path.{Path}
use Rattle.xbar_office.specs.Whole.{whole}
use Rattle.xbar_office.specs.declared.reply.Record.{Record}
use Rattle.xbar_plan.specs.Tables.{Tables}
use Rattle.xbar_page.specs.declared.links.Links.{Links}

-- a record, the set of paths after its turn, and where the section's links lead
pub record Section : Type 0 where
  pub owner : Record
  pub paths : List Path
  pub links : Links

-- the turn of the record at an index, if there is one
abbrev pub turn_at : List Record → ℕ → Option ℕ
turn_at records place = option_map (λ r. r.turn) (slice_get records place)

-- the sections of records on a set of paths, after a turn or none
abbrev pub sections_from : Tables → List Path → Option ℕ → List Record → List Section
sections_from plan paths before [] = []
sections_from plan paths before (owner ∷ more) =
    record {
      owner = owner;
      paths = (whole plan paths owner.job).paths;
      links = record { before = before; after = turn_at more 0 };
    }
    ∷ sections_from plan (whole plan paths owner.job).paths (Some owner.turn) more

-- the sections of records on an office that begins with no path
abbrev pub sections : Tables → List Record → List Section
sections plan records = sections_from plan [] None records
