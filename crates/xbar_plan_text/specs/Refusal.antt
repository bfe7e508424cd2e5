use Rattle.std.specs.Prelude.{◌≡◌, ◌⊎◌, ⊤, ℕ, Bool, Result, Err, MatchResult, Ok, Option, Some, None, is_none, option_map, option_and_then, find, List, [], ◌∷◌}
use Rattle.std.specs.Option.{option_or}
use Rattle.toml.specs.Data.{Data, Members, get_member}
use Rattle.xbar_plan.specs.Tables.{Tables, first_with}
use Rattle.xbar_plan.specs.TableFault.{key_of, fault_of as fault_of_tables}
use Rattle.xbar_plan.specs.declared.fault.PlanFault.{PlanFault}
use Rattle.xbar_plan.specs.declared.fault.PlanFault.TheVariants as fault
use Rattle.xbar_plan.specs.declared.table_fault.PlanList.{PlanList}
use Rattle.xbar_plan.specs.declared.table_fault.PlanList.TheVariants.{Groups, Numbers, Codes, Faults}
use Rattle.xbar_plan.specs.declared.table_fault.TableFault.{TableFault}
use Rattle.xbar_plan_text.specs.Texts.{read_all, group_of, station_of, code_entry_of, fault_of as link_of}
use Rattle.xbar_plan_text.specs.Document.{Four, document_of, version_of, values_of, lists_of}
use Rattle.xbar_plan_text.specs.declared.read.item_error.ItemError.{ItemError}
use Rattle.xbar_plan_text.specs.declared.read.item_error.ItemError.TheVariants as error
use Rattle.xbar_plan_text.specs.declared.read.version.Version.{Version}
use Rattle.xbar_plan_text.specs.declared.refusal.MalformedItem.{MalformedItem}
use Rattle.xbar_plan_text.specs.declared.refusal.PlanRefusal.{PlanRefusal}
use Rattle.xbar_plan_text.specs.declared.refusal.PlanRefusal.TheVariants as refusal

-- the fault for which a plan's text was refused
abbrev pub fault_of : PlanRefusal → PlanFault
fault_of (refusal.NotToml line column error) = fault.NotToml
fault_of (refusal.Version found) = fault.Version
fault_of (refusal.KeyMissing list) = fault.KeyMissing
fault_of (refusal.NotTexts list item found) = fault.NotTexts
fault_of (refusal.Malformed item) = fault.Malformed
fault_of (refusal.Tables found text) = fault_of_tables found
fault_of refusal.Memory = fault.Memory

-- ---- the list that is missing

-- a plan's lists, in the order in which they are checked
abbrev pub plan_lists : List PlanList
plan_lists = Groups ∷ Numbers ∷ Codes ∷ Faults ∷ []

-- whether a document has nothing at a list's key
abbrev pub is_missing : Members → PlanList → Bool
is_missing document list = is_none (get_member (key_of list) document)

-- the first list that is missing
abbrev pub missing_list : Members → Option PlanList
missing_list document = find (is_missing document) plan_lists

-- the first list that is missing in the document that these bytes are
abbrev pub missing_in : List ℕ → Option PlanList
missing_in bytes = option_and_then missing_list (document_of bytes)

-- ---- the item that is malformed

-- an item of a list, by its index, counted from 0, with its text
pub record Item : Type 0 where
  pub list : PlanList
  pub index : ℕ
  pub text : List ℕ

-- the item of a list with this index and text
abbrev pub item_at : PlanList → ℕ × List ℕ → Item
item_at list found = record { list = list; index = found.0; text = found.1 }

-- the first item of a list that can't be read
abbrev pub first_unread : {A : Type 0} → PlanList → (List ℕ → Option A) → List (List ℕ) → Option Item
first_unread list read texts =
    option_map (item_at list) (first_with (λ text. is_none (read text)) texts)

-- the first malformed item of the first list that has one
abbrev pub malformed_of_lists : Version → Four (List (List ℕ)) → Option Item
malformed_of_lists version lists =
    option_or (first_unread Groups group_of lists.groups)
    (option_or (first_unread Numbers (station_of version) lists.numbers)
    (option_or (first_unread Codes code_entry_of lists.codes)
    (first_unread Faults link_of lists.faults)))

-- the same, given the values at the four keys
abbrev pub malformed_of_values : Version → Four Data → Option Item
malformed_of_values version values = option_and_then (malformed_of_lists version) (lists_of values)

-- the same, given the version
abbrev pub malformed_of_version : Version → Members → Option Item
malformed_of_version version document =
    option_and_then (malformed_of_values version) (values_of document)

-- the first malformed item of a document
abbrev pub malformed_of_document : Members → Option Item
malformed_of_document document =
    option_and_then (λ version. malformed_of_version version document) (version_of document)

-- the first malformed item of the document that these bytes are
abbrev pub malformed_in : List ℕ → Option Item
malformed_in bytes = option_and_then malformed_of_document (document_of bytes)

-- ---- right refusals

-- the item that a refusal is about
abbrev pub item_of : MalformedItem → Item
item_of item = record { list = item.list; index = item.item; text = item.text.items }

-- a refusal points to this list if one is missing, and to this item if one is malformed
abbrev pub PointsTo : Option PlanList → Option Item → PlanRefusal → Type 0
PointsTo missing malformed (refusal.KeyMissing list) = missing ≡ Some list
PointsTo missing malformed (refusal.Malformed item) = malformed ≡ Some (item_of item)
PointsTo missing malformed (refusal.Tables found text) = malformed ≡ None
PointsTo missing malformed _ = ⊤

-- a right refusal: for the expected fault or as memory ran out, and it points to what is missing
-- or malformed
pub record IsRefusal (wanted : Result Tables PlanFault) (missing : Option PlanList)
    (malformed : Option Item) (told : PlanRefusal) : Type 0 where
  pub fault : (fault_of told ≡ fault.Memory) ⊎ (wanted ≡ Err (fault_of told))
  pub place : PointsTo missing malformed told

-- a right result of reading a plan: the expected tables, or a right refusal
abbrev pub IsToldReading : Result Tables PlanFault → Option PlanList → Option Item
    → Result Tables PlanRefusal → Type 0
IsToldReading wanted missing malformed result =
    MatchResult result (λ tables. wanted ≡ Ok tables) (IsRefusal wanted missing malformed)

-- ---- right refusals of the stages

-- a right result of the last stage: the expected tables or fault, or that memory ran out
abbrev pub IsTableReading : Result Tables PlanFault → Result Tables TableFault → Type 0
IsTableReading wanted result =
    MatchResult result (λ tables. wanted ≡ Ok tables)
    (λ found. (fault_of_tables found ≡ fault.Memory) ⊎ (wanted ≡ Err (fault_of_tables found)))

-- there is no document, or memory ran out
abbrev pub IsNotToml : Option Members → PlanRefusal → Type 0
IsNotToml wanted (refusal.NotToml line column error) = wanted ≡ None
IsNotToml wanted refusal.Memory = ⊤
IsNotToml wanted _ = ⊥

-- there are no texts, or memory ran out
abbrev pub IsNotTexts : Option (List (List ℕ)) → PlanRefusal → Type 0
IsNotTexts wanted (refusal.NotTexts list item found) = wanted ≡ None
IsNotTexts wanted refusal.Memory = ⊤
IsNotTexts wanted _ = ⊥

-- this item is malformed, or memory ran out
abbrev pub IsMalformed : Option Item → PlanRefusal → Type 0
IsMalformed wanted (refusal.Malformed item) = wanted ≡ Some (item_of item)
IsMalformed wanted refusal.Memory = ⊤
IsMalformed wanted _ = ⊥

-- the tables have this fault, or memory ran out
abbrev pub IsOfTables : TableFault → PlanRefusal → Type 0
IsOfTables wanted (refusal.Tables found text) = found ≡ wanted
IsOfTables wanted refusal.Memory = ⊤
IsOfTables wanted _ = ⊥

-- a right result of reading a list: its items, or its first item that can't be read
abbrev pub IsListRead : {A B : Type 0} → PlanList → (List ℕ → Option A) → (B → List A)
    → List (List ℕ) → Result B PlanRefusal → Type 0
IsListRead list read seen texts result =
    MatchResult result (λ items. read_all read texts ≡ Some (seen items))
    (IsMalformed (first_unread list read texts))

-- an item can't be read, or memory ran out
abbrev pub IsUnread : {A : Type 0} → Option A → ItemError → Type 0
IsUnread wanted error.Memory = ⊤
IsUnread wanted _ = wanted ≡ None

-- a right result of reading an item: the expected value, or an error if there is none
abbrev pub IsReadAs : {A B : Type 0} → (B → A) → Option A → Result B ItemError → Type 0
IsReadAs seen wanted result =
    MatchResult result (λ read. wanted ≡ Some (seen read)) (IsUnread wanted)
