use Rattle.std.specs.Prelude.{ℕ, Some, None, List, [], ◌∷◌, codes}
use Rattle.xbar_equip.specs.Len.{Line}
use Rattle.xbar_equip.specs.Ten.{TrunkPlace}
use Rattle.xbar_plan.specs.Group.{TrunkGroup}
use Rattle.xbar_plan.specs.Tables.{Tables, Station, Route}
use Rattle.xbar_plan.specs.declared.group.GroupKind.TheVariants.{Register, Intra, Outgoing}
use Rattle.xbar_plan.specs.declared.group.Member.{Member}

-- a trunk place by its frame, switch and appearance
abbrev pub place : ℕ → ℕ → ℕ → TrunkPlace
place frame switch appearance = record { frame = frame; switch = switch; appearance = appearance }

-- a member with one place
abbrev pub single : TrunkPlace → Member
single first = record { first = first; second = None }

-- a member with two places, the calling side's first
abbrev pub pair : TrunkPlace → TrunkPlace → Member
pair first second = record { first = first; second = Some second }

-- registers 417, 418 and 509; intra trunks 600-601 and 700-711; outgoing trunks 800, 801 and 902
abbrev pub example_groups : List TrunkGroup
example_groups =
    record {
      name = codes "REG";
      kind = Register;
      members = single (place 4 1 7) ∷ single (place 4 1 8) ∷ single (place 5 0 9) ∷ [];
    } ∷
    record {
      name = codes "INTRA";
      kind = Intra;
      members = pair (place 6 0 0) (place 6 0 1) ∷ pair (place 7 0 0) (place 7 1 1) ∷ [];
    } ∷
    record { name = codes "OUTA"; kind = Outgoing; members = single (place 8 0 0) ∷ [] } ∷
    record {
      name = codes "OUTB";
      kind = Outgoing;
      members = single (place 8 0 1) ∷ single (place 9 0 2) ∷ [];
    } ∷ []

-- a directory number with one line
abbrev pub station : ℕ → Line → Station
station number line = record { number = number; lines = line ∷ [] }

-- number 0001 has line 3041, 0002 has 3052, 0003 has 1000 and 0004 has 3100
abbrev pub example_stations : List Station
example_stations =
    station 1 (record { frame = 3; switch = 0; x = 21 }) ∷
    station 2 (record { frame = 3; switch = 0; x = 27 }) ∷
    station 3 (record { frame = 1; switch = 0; x = 0 }) ∷
    station 4 (record { frame = 3; switch = 1; x = 0 }) ∷ []

-- code 234 leads to INTRA, code 555 to OUTA and then to OUTB
abbrev pub example_routes : List Route
example_routes =
    record { code = 234; groups = 1 ∷ [] } ∷ record { code = 555; groups = 2 ∷ 3 ∷ [] } ∷ []

-- a small plan, in which no link is out of order
abbrev pub example : Tables
example =
    record {
      groups = example_groups;
      stations = example_stations;
      routes = example_routes;
      faults = [];
    }
