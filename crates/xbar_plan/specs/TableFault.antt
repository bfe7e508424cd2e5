use Rattle.std.specs.Prelude.{◌≡◌, ◌⊎◌, ◌<◌, ⊤, ℕ, Bool, true, false, Result, MatchResult, None, Some, List, length, map, slice_get, codes}
use Rattle.xbar_plan.specs.Tables.{Tables}
use Rattle.xbar_plan.specs.Lawful.{fault_in}
use Rattle.xbar_plan.specs.declared.fault.PlanFault.{PlanFault}
use Rattle.xbar_plan.specs.declared.fault.PlanFault.TheVariants as fault
use Rattle.xbar_plan.specs.declared.table_fault.PlanList.{PlanList}
use Rattle.xbar_plan.specs.declared.table_fault.PlanList.TheVariants.{Groups, Numbers, Codes, Faults}
use Rattle.xbar_plan.specs.declared.table_fault.Repeat.{Repeat}
use Rattle.xbar_plan.specs.declared.table_fault.TableFault.{TableFault}
use Rattle.xbar_plan.specs.declared.table_fault.TableFault.TheVariants as found

-- the key of a list in a plan's document
abbrev pub key_of : PlanList → List ℕ
key_of Groups = codes "groups"
key_of Numbers = codes "numbers"
key_of Codes = codes "codes"
key_of Faults = codes "faults"

-- the fault, without the place where it was found
abbrev pub fault_of : TableFault → PlanFault
fault_of (found.Malformed list item) = fault.Malformed
fault_of (found.TooManyItems list count) = fault.Limit
fault_of (found.PartCount list item count) = fault.Limit
fault_of (found.GroupTwice names) = fault.GroupTwice
fault_of found.NoRegisterGroup = fault.RegisterGroups
fault_of (found.RegisterGroupTwice groups) = fault.RegisterGroups
fault_of (found.PlaceTwice groups place) = fault.PlaceTwice
fault_of (found.PairApart item first second) = fault.PairApart
fault_of (found.NumberTwice numbers) = fault.NumberTwice
fault_of (found.CodeTwice codes) = fault.CodeTwice
fault_of (found.UnknownGroup item group) = fault.UnknownGroup
fault_of (found.RouteToRegisters item group) = fault.MixedRoute
fault_of (found.MixedRoute item intra outgoing) = fault.MixedRoute
fault_of found.Memory = fault.Memory

-- an item of the list is the same as an earlier one
pub record IsRepeatIn {A : Type 0} (items : List A) (repeat : Repeat) : Type 0 where
  pub order : repeat.earlier < repeat.item
  pub within : repeat.item < length items
  pub same : slice_get items repeat.item ≡ slice_get items repeat.earlier

-- a name, number or code that is told to occur twice does so
abbrev pub IsFoundIn : Tables → TableFault → Type 0
IsFoundIn plan (found.GroupTwice names) = IsRepeatIn (map (λ group. group.name) plan.groups) names
IsFoundIn plan (found.NumberTwice numbers) =
    IsRepeatIn (map (λ station. station.number) plan.stations) numbers
IsFoundIn plan (found.CodeTwice codes) = IsRepeatIn (map (λ route. route.code) plan.routes) codes
IsFoundIn plan _ = ⊤

-- the result of a check of tables: they pass the test, or they don't and this fault is found, or
-- memory ran out
abbrev pub IsCheck : {A : Type 0} → Tables → Bool → PlanFault → Result A TableFault → Type 0
IsCheck plan passes told result =
    MatchResult result (λ _. passes ≡ true) (λ wrong. IsFoundIn plan wrong
    × ((wrong ≡ found.Memory) ⊎ ((passes ≡ false) × (fault_of wrong ≡ told))))

-- the result of all checks of tables: they have no fault, or their first one is found, or memory
-- ran out
abbrev pub IsChecked : {A : Type 0} → Tables → Result A TableFault → Type 0
IsChecked plan result =
    MatchResult result (λ _. fault_in plan ≡ None) (λ wrong. IsFoundIn plan wrong
    × ((wrong ≡ found.Memory) ⊎ (fault_in plan ≡ Some (fault_of wrong))))

-- the result of making a plan: the tables, which are lawful, or what the checks found
abbrev pub IsCheckedPlan : Tables → Result Tables TableFault → Type 0
IsCheckedPlan plan result =
    IsChecked plan result × MatchResult result (λ made. made ≡ plan) (λ wrong. ⊤)
