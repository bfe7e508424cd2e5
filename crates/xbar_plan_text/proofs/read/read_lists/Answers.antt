use Rattle.std.proofs.Common.{rules, ◌≡◌, None, Err, inl, inr, ◌∙◌, List, ℕ, Bor}
use Rattle.xbar_plan_text.specs.{Texts.{group_of, station_of, code_entry_of, fault_of}, Document.{Four, plan_of_lists}, Refusal.malformed_of_lists}
use Rattle.xbar_plan_text.proofs.{FirstItem.{bytes_of, all_read as none_unread, not_all_read}, FourLists.{groups_unread, numbers_unread, codes_unread}}
use Rattle.xbar_plan_text.proofs.{FourLists.{faults_unread, all_read}, Stages.{lists_refused, lists_read, item_malformed, tables_refused}}
use Rattle.xbar_plan.specs.declared.table_fault.PlanList.TheVariants.{Groups, Numbers, Codes, Faults}
use Rattle.xbar_plan_text.proofs.read.read_lists.Goals as goal

-- the texts of the four lists
abbrev lists : (groups numbers codes faults : List (Bor (List ℕ))) → Four (List (List ℕ))
lists groups numbers codes faults =
    record { groups = bytes_of groups; numbers = bytes_of numbers; codes = bytes_of codes; faults = bytes_of faults }

pub returns-in_err-own_groups : goal.returns-in_err-own_groups
returns-in_err-own_groups c =
    let is : c.from_residual.result ≡ Err c.in_err-own_groups.field-0.0 = search rules in
    rw is (item_malformed (plan_of_lists c.args.version (lists c.args.groups.now c.args.numbers.now c.args.codes.now c.args.faults.now)) None (malformed_of_lists c.args.version (lists c.args.groups.now c.args.numbers.now c.args.codes.now c.args.faults.now)) _ _ c.in_err-own_groups.ensures
    (λ item found. (
      lists_refused c.args.version (lists c.args.groups.now c.args.numbers.now c.args.codes.now c.args.faults.now) (groups_unread c.args.version (lists c.args.groups.now c.args.numbers.now c.args.codes.now c.args.faults.now) (not_all_read Groups group_of (bytes_of c.args.groups.now) item found)),
      rw found,
    )))

pub returns-in_err-stations : goal.returns-in_err-stations
returns-in_err-stations c =
    let is : c.from_residual-in_err-stations.result ≡ Err c.in_err-stations.field-0.0 = search rules in
    let none_own_groups = none_unread Groups group_of (bytes_of c.args.groups.now) _ c.in_ok-own_groups.ensures in
    rw is (item_malformed (plan_of_lists c.args.version (lists c.args.groups.now c.args.numbers.now c.args.codes.now c.args.faults.now)) None (malformed_of_lists c.args.version (lists c.args.groups.now c.args.numbers.now c.args.codes.now c.args.faults.now)) _ _ c.in_err-stations.ensures
    (λ item found. (
      lists_refused c.args.version (lists c.args.groups.now c.args.numbers.now c.args.codes.now c.args.faults.now) (numbers_unread c.args.version (lists c.args.groups.now c.args.numbers.now c.args.codes.now c.args.faults.now) _ c.in_ok-own_groups.ensures (not_all_read Numbers (station_of c.args.version) (bytes_of c.args.numbers.now) item found)),
      rw (none_own_groups, found),
    )))

pub returns-in_err-entries : goal.returns-in_err-entries
returns-in_err-entries c =
    let is : c.from_residual-in_err-entries.result ≡ Err c.in_err-entries.field-0.0 = search rules in
    let none_own_groups = none_unread Groups group_of (bytes_of c.args.groups.now) _ c.in_ok-own_groups.ensures in
    let none_stations = none_unread Numbers (station_of c.args.version) (bytes_of c.args.numbers.now) _ c.in_ok-stations.ensures in
    rw is (item_malformed (plan_of_lists c.args.version (lists c.args.groups.now c.args.numbers.now c.args.codes.now c.args.faults.now)) None (malformed_of_lists c.args.version (lists c.args.groups.now c.args.numbers.now c.args.codes.now c.args.faults.now)) _ _ c.in_err-entries.ensures
    (λ item found. (
      lists_refused c.args.version (lists c.args.groups.now c.args.numbers.now c.args.codes.now c.args.faults.now) (codes_unread c.args.version (lists c.args.groups.now c.args.numbers.now c.args.codes.now c.args.faults.now) _ _ c.in_ok-own_groups.ensures c.in_ok-stations.ensures (not_all_read Codes code_entry_of (bytes_of c.args.codes.now) item found)),
      rw (none_own_groups, none_stations, found),
    )))

pub returns-in_err-links : goal.returns-in_err-links
returns-in_err-links c =
    let is : c.from_residual-in_err-links.result ≡ Err c.in_err-links.field-0.0 = search rules in
    let none_own_groups = none_unread Groups group_of (bytes_of c.args.groups.now) _ c.in_ok-own_groups.ensures in
    let none_stations = none_unread Numbers (station_of c.args.version) (bytes_of c.args.numbers.now) _ c.in_ok-stations.ensures in
    let none_entries = none_unread Codes code_entry_of (bytes_of c.args.codes.now) _ c.in_ok-entries.ensures in
    rw is (item_malformed (plan_of_lists c.args.version (lists c.args.groups.now c.args.numbers.now c.args.codes.now c.args.faults.now)) None (malformed_of_lists c.args.version (lists c.args.groups.now c.args.numbers.now c.args.codes.now c.args.faults.now)) _ _ c.in_err-links.ensures
    (λ item found. (
      lists_refused c.args.version (lists c.args.groups.now c.args.numbers.now c.args.codes.now c.args.faults.now) (faults_unread c.args.version (lists c.args.groups.now c.args.numbers.now c.args.codes.now c.args.faults.now) _ _ _ c.in_ok-own_groups.ensures c.in_ok-stations.ensures c.in_ok-entries.ensures (not_all_read Faults fault_of (bytes_of c.args.faults.now) item found)),
      rw (none_own_groups, none_stations, none_entries, found),
    )))

pub returns-in-Ok : goal.returns-in-Ok
returns-in-Ok c =
    let entries = all_read c.args.version (lists c.args.groups.now c.args.numbers.now c.args.codes.now c.args.faults.now) _ _ _ _ c.in_ok-own_groups.ensures c.in_ok-stations.ensures c.in_ok-entries.ensures c.in_ok-links.ensures in
    lists_read c.args.version (lists c.args.groups.now c.args.numbers.now c.args.codes.now c.args.faults.now) _ entries ∙ search rules

pub returns : goal.returns
returns c =
    let entries = all_read c.args.version (lists c.args.groups.now c.args.numbers.now c.args.codes.now c.args.faults.now) _ _ _ _ c.in_ok-own_groups.ensures c.in_ok-stations.ensures c.in_ok-entries.ensures c.in_ok-links.ensures in
    let same = lists_read c.args.version (lists c.args.groups.now c.args.numbers.now c.args.codes.now c.args.faults.now) _ entries in
    let none_own_groups = none_unread Groups group_of (bytes_of c.args.groups.now) _ c.in_ok-own_groups.ensures in
    let none_stations = none_unread Numbers (station_of c.args.version) (bytes_of c.args.numbers.now) _ c.in_ok-stations.ensures in
    let none_entries = none_unread Codes code_entry_of (bytes_of c.args.codes.now) _ c.in_ok-entries.ensures in
    let none_links = none_unread Faults fault_of (bytes_of c.args.faults.now) _ c.in_ok-links.ensures in
    let told_so = rw c.deref.ensures.value at c.in-Err.ensures in
    tables_refused (plan_of_lists c.args.version (lists c.args.groups.now c.args.numbers.now c.args.codes.now c.args.faults.now)) None (malformed_of_lists c.args.version (lists c.args.groups.now c.args.numbers.now c.args.codes.now c.args.faults.now)) c.in-Err.fault c.refuse_tables.result
    c.refuse_tables.ensures (rw (none_own_groups, none_stations, none_entries, none_links))
    (elim told_so [ inl memory ↦ inl memory | inr told ↦ inr (same ∙ told) ])
