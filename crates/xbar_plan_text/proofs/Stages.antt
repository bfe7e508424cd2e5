use Rattle.std.proofs.Common.{◌≡◌, ℕ, List, ◌⊎◌, inl, inr, refl, sym, ◌∙◌, ap, subst, Option, Some, None, Result, Ok, Err}
use Rattle.{toml.specs.Data.{Data, Members}, xbar_plan.specs.{Tables.Tables, TableFault.{IsCheckedPlan, fault_of as fault_of_tables}}}
use Rattle.xbar_plan.specs.declared.{fault.PlanFault.PlanFault, table_fault.{PlanList.PlanList, TableFault.TableFault}}
use Rattle.xbar_plan_text.specs.Document.{Four, Entries, unless_faulty, tables_of_entries, version_of, values_of, lists_of, entries_of, plan_of_entries}
use Rattle.xbar_plan_text.specs.Document.{plan_of_lists, plan_of_values, plan_of_version, plan_of_document, plan_of, document_of}
use Rattle.xbar_plan_text.specs.Refusal.{Item, IsRefusal, IsToldReading, IsTableReading, IsNotToml, IsNotTexts, IsMalformed, IsOfTables, PointsTo, item_of}
use Rattle.xbar_plan_text.specs.declared.{read.version.Version.Version, refusal.PlanRefusal.PlanRefusal}
use Rattle.xbar_plan_text.proofs.{Capped.{capped_tables, same-fault, same-lawful}, Documents.{goes_on, ends}}
use Rattle.xbar_plan.specs.declared.fault.PlanFault.TheVariants as fault
use Rattle.xbar_plan_text.specs.declared.refusal.PlanRefusal.TheVariants as refusal

-- a stage that gives nothing is the end, and else the next stage follows
pub lists_refused : (version : Version) (lists : Four (List (List ℕ))) → entries_of version lists ≡ None → plan_of_lists version lists ≡ Err fault.Malformed
unfolding plan_of_lists
lists_refused version lists e = ends fault.Malformed (entries_of version lists) plan_of_entries e

pub lists_read : (version : Version) (lists : Four (List (List ℕ))) (entries : Entries) → entries_of version lists ≡ Some entries
    → plan_of_lists version lists ≡ plan_of_entries entries
unfolding plan_of_lists
lists_read version lists entries e = goes_on fault.Malformed (entries_of version lists) plan_of_entries entries e

pub values_refused : (version : Version) (values : Four Data) → lists_of values ≡ None → plan_of_values version values ≡ Err fault.NotTexts
unfolding plan_of_values
values_refused version values e = ends fault.NotTexts (lists_of values) (plan_of_lists version) e

pub values_read : (version : Version) (values : Four Data) (lists : Four (List (List ℕ))) → lists_of values ≡ Some lists
    → plan_of_values version values ≡ plan_of_lists version lists
unfolding plan_of_values
values_read version values lists e = goes_on fault.NotTexts (lists_of values) (plan_of_lists version) lists e

pub version_refused : (document : Members) (version : Version) → values_of document ≡ None → plan_of_version document version ≡ Err fault.KeyMissing
unfolding plan_of_version
version_refused document version e = ends fault.KeyMissing (values_of document) (plan_of_values version) e

pub version_read : (document : Members) (version : Version) (values : Four Data) → values_of document ≡ Some values
    → plan_of_version document version ≡ plan_of_values version values
unfolding plan_of_version
version_read document version values e = goes_on fault.KeyMissing (values_of document) (plan_of_values version) values e

pub document_refused : (document : Members) → version_of document ≡ None → plan_of_document document ≡ Err fault.Version
unfolding plan_of_document
document_refused document e = ends fault.Version (version_of document) (plan_of_version document) e

pub document_read : (document : Members) (version : Version) → version_of document ≡ Some version → plan_of_document document ≡ plan_of_version document version
unfolding plan_of_document
document_read document version e = goes_on fault.Version (version_of document) (plan_of_version document) version e

pub bytes_refused : (bytes : List ℕ) → document_of bytes ≡ None → plan_of bytes ≡ Err fault.NotToml
unfolding plan_of
bytes_refused bytes e = ends fault.NotToml (document_of bytes) plan_of_document e

pub bytes_read : (bytes : List ℕ) (document : Members) → document_of bytes ≡ Some document → plan_of bytes ≡ plan_of_document document
unfolding plan_of
bytes_read bytes document e = goes_on fault.NotToml (document_of bytes) plan_of_document document e

-- the last stage, over tables with capped numbers
pub entries_read : (entries : Entries) (result : Result Tables TableFault) → IsCheckedPlan (capped_tables entries) result
    → IsTableReading (plan_of_entries entries) result
unfolding plan_of_entries
entries_read entries (Ok made) is =
    ap (λ (o : Option PlanFault). unless_faulty o (tables_of_entries entries)) (sym (same-fault entries) ∙ is.0)
    ∙ ap (λ (tables : Tables). Ok tables) (sym (same-lawful entries is.0) ∙ sym is.1)
entries_read entries (Err wrong) is = elim is.0.1 [
  | inl memory ↦ inl (ap fault_of_tables memory)
  | inr told ↦ inr (ap (λ (o : Option PlanFault). unless_faulty o (tables_of_entries entries)) (sym (same-fault entries) ∙ told))
]

-- a right result is one for any reading that expects the same
pub reading : (wanted wanted' : Result Tables PlanFault) (missing missing' : Option PlanList) (malformed malformed' : Option Item)
    (result : Result Tables PlanRefusal) → wanted ≡ wanted' → missing ≡ missing' → malformed ≡ malformed' → IsToldReading wanted' missing' malformed' result
    → IsToldReading wanted missing malformed result
reading wanted wanted' missing missing' malformed malformed' result e f g is =
    subst (λ (w : Result Tables PlanFault). IsToldReading w missing malformed result) (sym e)
    (subst (λ (m : Option PlanList). IsToldReading wanted' m malformed result) (sym f)
    (subst (λ (m : Option Item). IsToldReading wanted' missing' m result) (sym g) is))

-- no refusal by the later stages is about a missing list
pub none_missing : (wanted : Result Tables PlanFault) (missing : Option PlanList) (malformed : Option Item) (result : Result Tables PlanRefusal)
    → IsToldReading wanted None malformed result → IsToldReading wanted missing malformed result
none_missing wanted missing malformed (Ok tables) is = is
none_missing wanted missing malformed (Err told) is = record { fault = is.fault; place = of told is.place } where
  of : (told : PlanRefusal) → PointsTo None malformed told → PointsTo missing malformed told
  of (refusal.NotToml line column error) points = tt
  of (refusal.Version found) points = tt
  of (refusal.KeyMissing list) points = cc
  of (refusal.NotTexts list item found) points = tt
  of (refusal.Malformed item) points = points
  of (refusal.Tables found text) points = points
  of refusal.Memory points = tt

-- a refusal of a stage is a refusal of the reading
module _ (wanted : Result Tables PlanFault) (missing : Option PlanList) (malformed : Option Item) where
  pub not_toml : (document : Option Members) (told : PlanRefusal) → IsNotToml document told → (document ≡ None → wanted ≡ Err fault.NotToml)
      → IsRefusal wanted missing malformed told
  not_toml document (refusal.NotToml line column error) is so = record { fault = inr (so is); place = tt }
  not_toml document refusal.Memory is so = record { fault = inl refl; place = tt }
  not_toml document (refusal.Version found) is so = absurd is
  not_toml document (refusal.KeyMissing list) is so = absurd is
  not_toml document (refusal.NotTexts list item found) is so = absurd is
  not_toml document (refusal.Malformed item) is so = absurd is
  not_toml document (refusal.Tables found text) is so = absurd is

  pub not_texts : (texts : Option (List (List ℕ))) (told : PlanRefusal) → IsNotTexts texts told → (texts ≡ None → wanted ≡ Err fault.NotTexts)
      → IsRefusal wanted missing malformed told
  not_texts texts (refusal.NotTexts list item found) is so = record { fault = inr (so is); place = tt }
  not_texts texts refusal.Memory is so = record { fault = inl refl; place = tt }
  not_texts texts (refusal.NotToml line column error) is so = absurd is
  not_texts texts (refusal.Version found) is so = absurd is
  not_texts texts (refusal.KeyMissing list) is so = absurd is
  not_texts texts (refusal.Malformed item) is so = absurd is
  not_texts texts (refusal.Tables found text) is so = absurd is

  pub item_malformed : (own : Option Item) (told : PlanRefusal) → IsMalformed own told
      → ((item : Item) → own ≡ Some item → (wanted ≡ Err fault.Malformed) × (malformed ≡ Some item)) → IsRefusal wanted missing malformed told
  item_malformed own (refusal.Malformed item) is so = record { fault = inr (so (item_of item) is).0; place = (so (item_of item) is).1 }
  item_malformed own refusal.Memory is so = record { fault = inl refl; place = tt }
  item_malformed own (refusal.NotToml line column error) is so = absurd is
  item_malformed own (refusal.Version found) is so = absurd is
  item_malformed own (refusal.KeyMissing list) is so = absurd is
  item_malformed own (refusal.NotTexts list item found) is so = absurd is
  item_malformed own (refusal.Tables found text) is so = absurd is

  pub tables_refused : (found : TableFault) (told : PlanRefusal) → IsOfTables found told → malformed ≡ None
      → (fault_of_tables found ≡ fault.Memory) ⊎ (wanted ≡ Err (fault_of_tables found)) → IsRefusal wanted missing malformed told
  tables_refused found (refusal.Tables own text) is none so =
      subst (λ (f : TableFault). IsRefusal wanted missing malformed (refusal.Tables f text)) (sym is) (record { fault = so; place = none })
  tables_refused found refusal.Memory is none so = record { fault = inl refl; place = tt }
  tables_refused found (refusal.NotToml line column error) is none so = absurd is
  tables_refused found (refusal.Version what) is none so = absurd is
  tables_refused found (refusal.KeyMissing list) is none so = absurd is
  tables_refused found (refusal.NotTexts list item what) is none so = absurd is
  tables_refused found (refusal.Malformed item) is none so = absurd is
