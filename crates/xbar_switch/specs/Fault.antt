use Rattle.std.specs.Prelude.{ℕ, List, codes}
use Rattle.xbar_switch.specs.declared.fault.SwitchFault.{SwitchFault}
use Rattle.xbar_switch.specs.declared.fault.SwitchFault.TheVariants.{NothingSelected, AlreadyHeld, NotHeld}

-- the message of a fault
abbrev pub text_of : SwitchFault → List ℕ
text_of NothingSelected = codes "no place of the switch is selected"
text_of AlreadyHeld = codes "the field is held already"
text_of NotHeld = codes "the field is not held"
