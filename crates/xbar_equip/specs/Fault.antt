use Rattle.std.specs.Prelude.{ℕ, Bool, true, false, not, ◌==◌, Option, Some, None, List, length, codes}
use Rattle.xbar_equip.specs.Digits.{are_digits}
use Rattle.xbar_equip.specs.declared.fault.EquipFault.{EquipFault}
use Rattle.xbar_equip.specs.declared.fault.EquipFault.TheVariants.{Length, NotDigit, Range}

-- the first fault that applies, in this order: a wrong number of bytes, a byte that is not a
-- digit, a digit out of its range
abbrev pub first_fault : Bool → Bool → Bool → Option EquipFault
first_fault true no_digits out_of_range = Some Length
first_fault false true out_of_range = Some NotDigit
first_fault false false true = Some Range
first_fault false false false = None

-- the fault, if any, of a text that has to be `count` digits, each of any value
abbrev pub digits_fault : ℕ → List ℕ → Option EquipFault
digits_fault count text = first_fault (not (length text == count)) (not (are_digits text)) false

-- the message of a fault
abbrev pub fault_text : EquipFault → List ℕ
fault_text Length = codes "wrong number of characters"
fault_text NotDigit = codes "a character that may not stand there"
fault_text Range = codes "a digit out of its range"
