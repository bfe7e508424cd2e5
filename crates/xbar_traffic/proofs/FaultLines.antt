use Rattle.std.proofs.Common.{◌≡◌, ◌++◌, ℕ, List, refl, append_assoc, ap, sym, codes, decimal}
use Rattle.xbar_traffic.specs.{Fault.{fault_code, fault_line, marker_code, row_fault_text}, declared.fault.{MarkerFault.MarkerFault, RowFault.RowFault}}
use Rattle.xbar_traffic.specs.declared.fault.RowFault.TheVariants.{Unreadable, UnknownKind, Malformed, NumberTwice, Marker, OtherMode}
use Rattle.xbar_traffic.specs.declared.fault.TrafficFault.{TrafficFault}

-- the line of a marker's fault, part after part
pub marker_line : (refused : TrafficFault) (why : MarkerFault) → refused.fault ≡ Marker why
    → codes "FAULT,T5," ++ (decimal refused.row ++ (codes "," ++ (marker_code why ++ codes "\n"))) ≡ fault_line refused
marker_line refused why e =
    rw e (ap (λ (end : List ℕ). codes "FAULT,T5," ++ end) (sym (append_assoc (decimal refused.row) (codes "," ++ marker_code why) (codes "\n"))))

-- the line of any other fault, part after part
pub plain_line : (row : ℕ) (fault : RowFault) → ((why : MarkerFault) → fault ≡ Marker why → ⊥)
    → codes "FAULT," ++ (fault_code fault ++ (codes "," ++ (decimal row ++ codes "\n"))) ≡ codes "FAULT," ++ (row_fault_text row fault ++ codes "\n")
plain_line row Unreadable none = refl
plain_line row UnknownKind none = refl
plain_line row Malformed none = refl
plain_line row NumberTwice none = refl
plain_line row (Marker why) none = absurd (none why refl)
plain_line row OtherMode none = refl
