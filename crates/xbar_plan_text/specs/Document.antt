use Rattle.std.specs.Prelude.{◌≡◌, ◌⊎◌, ℕ, pos, ◌==◌, if◌then◌else◌, Option, Some, None, Result, Ok, Err, MatchResult, option_map, option_and_then, List, [], ◌∷◌, map, codes}
use Rattle.std.specs.Str.{is_utf8}
use Rattle.toml.specs.Data.{Data, integer, Items, no_items, item, Members, get_member, as_str, as_array}
use Rattle.toml.specs.Parse.{parse_document}
use Rattle.xbar_equip.specs.Link.{Link}
use Rattle.xbar_plan.specs.Group.{TrunkGroup}
use Rattle.xbar_plan.specs.Tables.{Tables, Station}
use Rattle.xbar_plan.specs.Lawful.{fault_in}
use Rattle.xbar_plan_text.specs.Texts.{CodeEntry, read_all, group_of, station_of, code_entry_of, fault_of, route_of_entry}
use Rattle.xbar_plan.specs.declared.fault.PlanFault.{PlanFault}
use Rattle.xbar_plan.specs.declared.fault.PlanFault.TheVariants as fault
use Rattle.xbar_plan_text.specs.declared.read.version.Version.{Version}
use Rattle.xbar_plan_text.specs.declared.read.version.Version.TheVariants.{One, Two}

-- a value for each of a document's four keys with lists
pub record Four (A : Type 0) : Type 0 where
  pub groups : A
  pub numbers : A
  pub codes : A
  pub faults : A

-- f of four values, if each is there
abbrev pub together : {A B C D E : Type 0} → (A → B → C → D → E) → Option A → Option B → Option C
    → Option D → Option E
together f a b c d =
    option_and_then (λ first. option_and_then
    (λ second. option_and_then (λ third. option_map (f first second third) d) c) b) a

-- the record of four values, if each is there
abbrev pub all_four : {A : Type 0} → Option A → Option A → Option A → Option A → Option (Four A)
all_four {A} groups numbers codes faults =
    together {E = Four A}
    (λ groups numbers codes faults.
    record { groups = groups; numbers = numbers; codes = codes; faults = faults })
    groups numbers codes faults

-- ---- what is read, one stage for each of the first five faults

-- the version with this number: 1 or 2
abbrev pub version_of_number : Option ℕ → Option Version
version_of_number None = None
version_of_number (Some number) =
    if number == 1 then Some One else if number == 2 then Some Two else None

-- a value as a natural number, if it is one
abbrev pub whole_number : Option Data → Option ℕ
whole_number (Some (integer (pos number))) = Some number
whole_number _ = None

-- the version that a document states, if it is a valid one
abbrev pub version_of : Members → Option Version
version_of document = version_of_number (whole_number (get_member (codes "version") document))

-- the values at the four keys, if each is there
abbrev pub values_of : Members → Option (Four Data)
values_of document =
    all_four (get_member (codes "groups") document) (get_member (codes "numbers") document)
    (get_member (codes "codes") document) (get_member (codes "faults") document)

-- the strings of items, if each is a string
abbrev pub texts_of_items : Items → Option (List (List ℕ))
texts_of_items no_items = Some []
texts_of_items (item value items) =
    option_and_then (λ text. option_map (λ texts. text ∷ texts) (texts_of_items items))
    (as_str value)

-- the strings of a value, if it is an array of strings
abbrev pub texts_of : Data → Option (List (List ℕ))
texts_of value = option_and_then texts_of_items (as_array value)

-- the strings of the four values, if each is an array of strings
abbrev pub lists_of : Four Data → Option (Four (List (List ℕ)))
lists_of values =
    all_four (texts_of values.groups) (texts_of values.numbers) (texts_of values.codes)
    (texts_of values.faults)

-- the items of the four lists, each read by its grammar
pub record Entries : Type 0 where
  pub groups : List TrunkGroup
  pub stations : List Station
  pub codes : List CodeEntry
  pub faults : List Link

-- the items of the four lists, if each of them can be read
abbrev pub entries_of : Version → Four (List (List ℕ)) → Option Entries
entries_of version lists =
    together {E = Entries}
    (λ groups stations codes faults.
    record { groups = groups; stations = stations; codes = codes; faults = faults })
    (read_all group_of lists.groups) (read_all (station_of version) lists.numbers)
    (read_all code_entry_of lists.codes) (read_all fault_of lists.faults)

-- the tables of these items, with the groups of each code by number
abbrev pub tables_of_entries : Entries → Tables
tables_of_entries entries = record {
  groups = entries.groups;
  stations = entries.stations;
  routes = map (route_of_entry entries.groups) entries.codes;
  faults = entries.faults;
}

-- ---- the plan of a text

-- a stage of reading: it ends with its fault if it gives no value, and else the next stage follows
abbrev pub needs : {A : Type 0} → PlanFault → Option A → (A → Result Tables PlanFault)
    → Result Tables PlanFault
needs told None next = Err told
needs told (Some value) next = next value

-- the tables, or their fault if they have one
abbrev pub unless_faulty : Option PlanFault → Tables → Result Tables PlanFault
unless_faulty None tables = Ok tables
unless_faulty (Some told) tables = Err told

-- the last stage: the tables of the items, or the first of their faults from `Limit` on
unfoldable pub plan_of_entries : Entries → Result Tables PlanFault
plan_of_entries entries =
    unless_faulty (fault_in (tables_of_entries entries)) (tables_of_entries entries)

-- the stage before it: the items of the strings
unfoldable pub plan_of_lists : Version → Four (List (List ℕ)) → Result Tables PlanFault
plan_of_lists version lists = needs fault.Malformed (entries_of version lists) plan_of_entries

-- the stage before that: the strings of the values
unfoldable pub plan_of_values : Version → Four Data → Result Tables PlanFault
plan_of_values version values = needs fault.NotTexts (lists_of values) (plan_of_lists version)

-- the stage before that: the values at the keys
unfoldable pub plan_of_version : Members → Version → Result Tables PlanFault
plan_of_version document version =
    needs fault.KeyMissing (values_of document) (plan_of_values version)

-- the stage before that: the version
unfoldable pub plan_of_document : Members → Result Tables PlanFault
plan_of_document document = needs fault.Version (version_of document) (plan_of_version document)

-- the TOML document of the bytes, if they are one
unfoldable pub document_of : List ℕ → Option Members
document_of bytes = if is_utf8 bytes then parse_document bytes else None

-- the version that the document of the bytes states, if there is one
abbrev pub version_in : List ℕ → Option Version
version_in bytes = option_and_then version_of (document_of bytes)

-- the first stage, and so all of them: the tables of the plan in the bytes, or the first fault
unfoldable pub plan_of : List ℕ → Result Tables PlanFault
plan_of bytes = needs fault.NotToml (document_of bytes) plan_of_document

-- a right result of reading a plan: the expected tables or fault, or that memory ran out
abbrev pub IsReading : Result Tables PlanFault → Result Tables PlanFault → Type 0
IsReading wanted result =
    MatchResult result (λ tables. wanted ≡ Ok tables)
    (λ told. (told ≡ fault.Memory) ⊎ (wanted ≡ Err told))

-- two documents, one in version 1 and one in version 2, with the same values at the other four
-- keys
pub record DifferInVersion (first second : Members) : Type 0 where
  pub one : version_of first ≡ Some One
  pub two : version_of second ≡ Some Two
  pub same : values_of first ≡ values_of second
