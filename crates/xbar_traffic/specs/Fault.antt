use Rattle.std.specs.Prelude.{ℕ, List, ◌++◌, codes, decimal}
use Rattle.xbar_traffic.specs.declared.fault.MarkerFault.{MarkerFault}
use Rattle.xbar_traffic.specs.declared.fault.MarkerFault.TheVariants.{NoMarker, NotIdle, WrongKind}
use Rattle.xbar_traffic.specs.declared.fault.RowFault.{RowFault}
use Rattle.xbar_traffic.specs.declared.fault.RowFault.TheVariants.{Unreadable, UnknownKind, Malformed, NumberTwice, Marker, OtherMode}
use Rattle.xbar_traffic.specs.declared.fault.TrafficFault.{TrafficFault}

-- the code of a marker's fault
abbrev pub marker_code : MarkerFault → List ℕ
marker_code NoMarker = codes "C1"
marker_code NotIdle = codes "C2"
marker_code WrongKind = codes "C3"

-- the code of a row's fault
abbrev pub fault_code : RowFault → List ℕ
fault_code Unreadable = codes "T1"
fault_code UnknownKind = codes "T2"
fault_code Malformed = codes "T3"
fault_code NumberTwice = codes "T4"
fault_code (Marker why) = codes "T5"
fault_code OtherMode = codes "T6"

-- the code, the row's number, and for a marker's fault its own code
abbrev pub row_fault_text : ℕ → RowFault → List ℕ
row_fault_text row (Marker why) = codes "T5," ++ (decimal row ++ (codes "," ++ marker_code why))
row_fault_text row fault = fault_code fault ++ (codes "," ++ decimal row)

-- the line that reports a fault
abbrev pub fault_line : TrafficFault → List ℕ
fault_line refused = codes "FAULT," ++ (row_fault_text refused.row refused.fault ++ codes "\n")
