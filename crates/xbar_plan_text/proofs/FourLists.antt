use Rattle.std.proofs.Common.{◌≡◌, ℕ, List, Some, None}
use Rattle.{toml.specs.{Data.Data, View.view}, xbar_equip.specs.Link.Link, xbar_plan.specs.{Group.TrunkGroup, Tables.Station}}
use Rattle.xbar_plan_text.specs.{Texts.{read_all, group_of, station_of, CodeEntry, code_entry_of, fault_of}, Document.{Four, entries_of, texts_of, lists_of}}
use Rattle.xbar_plan_text.specs.declared.read.{version.Version.Version, document.Values.Values}

-- the values that the references refer to
abbrev pub values_at : Values → Four Data
values_at values =
    record {
      groups = view values.groups.now;
      numbers = view values.numbers.now;
      codes = view values.codes.now;
      faults = view values.faults.now;
    }

-- the items of all four lists are read, or an item of one list cannot be read
module _ (version : Version) (lists : Four (List (List ℕ))) where
  pub groups_unread : read_all group_of lists.groups ≡ None → entries_of version lists ≡ None
  groups_unread e1 = rw e1

  pub numbers_unread : (a : List TrunkGroup) → read_all group_of lists.groups ≡ Some a → read_all (station_of version) lists.numbers ≡ None
      → entries_of version lists ≡ None
  numbers_unread a e1 e2 = rw (e1, e2)

  pub codes_unread : (a : List TrunkGroup) (b : List Station) → read_all group_of lists.groups ≡ Some a
      → read_all (station_of version) lists.numbers ≡ Some b → read_all code_entry_of lists.codes ≡ None → entries_of version lists ≡ None
  codes_unread a b e1 e2 e3 = rw (e1, e2, e3)

  pub faults_unread : (a : List TrunkGroup) (b : List Station) (c : List CodeEntry) → read_all group_of lists.groups ≡ Some a
      → read_all (station_of version) lists.numbers ≡ Some b → read_all code_entry_of lists.codes ≡ Some c → read_all fault_of lists.faults ≡ None
      → entries_of version lists ≡ None
  faults_unread a b c e1 e2 e3 e4 = rw (e1, e2, e3, e4)

  pub all_read : (a : List TrunkGroup) (b : List Station) (c : List CodeEntry) (d : List Link) → read_all group_of lists.groups ≡ Some a
      → read_all (station_of version) lists.numbers ≡ Some b → read_all code_entry_of lists.codes ≡ Some c → read_all fault_of lists.faults ≡ Some d
      → entries_of version lists ≡ Some (record { groups = a; stations = b; codes = c; faults = d })
  all_read a b c d e1 e2 e3 e4 = rw (e1, e2, e3, e4)

-- all four values are arrays of strings, or one of them is not
module _ (values : Four Data) where
  pub groups_textless : texts_of values.groups ≡ None → lists_of values ≡ None
  groups_textless e1 = rw e1

  pub numbers_textless : (a : List (List ℕ)) → texts_of values.groups ≡ Some a → texts_of values.numbers ≡ None → lists_of values ≡ None
  numbers_textless a e1 e2 = rw (e1, e2)

  pub codes_textless : (a b : List (List ℕ)) → texts_of values.groups ≡ Some a → texts_of values.numbers ≡ Some b → texts_of values.codes ≡ None
      → lists_of values ≡ None
  codes_textless a b e1 e2 e3 = rw (e1, e2, e3)

  pub faults_textless : (a b c : List (List ℕ)) → texts_of values.groups ≡ Some a → texts_of values.numbers ≡ Some b → texts_of values.codes ≡ Some c
      → texts_of values.faults ≡ None → lists_of values ≡ None
  faults_textless a b c e1 e2 e3 e4 = rw (e1, e2, e3, e4)

  pub all_texts : (a b c d : List (List ℕ)) → texts_of values.groups ≡ Some a → texts_of values.numbers ≡ Some b → texts_of values.codes ≡ Some c
      → texts_of values.faults ≡ Some d → lists_of values ≡ Some (record { groups = a; numbers = b; codes = c; faults = d })
  all_texts a b c d e1 e2 e3 e4 = rw (e1, e2, e3, e4)
