use Rattle.std.specs.Prelude.{ℕ, List, codes}
use Rattle.xbar_plan.specs.declared.fault.PlanFault.{PlanFault}
use Rattle.xbar_plan.specs.declared.fault.PlanFault.TheVariants.{NotToml, Version, KeyMissing, NotTexts, Malformed, Limit, GroupTwice, RegisterGroups, PlaceTwice, PairApart, NumberTwice, CodeTwice, UnknownGroup, MixedRoute, Memory}

-- the text of a fault: its number, or MEMORY if memory ran out
abbrev pub fault_text : PlanFault → List ℕ
fault_text NotToml = codes "P1"
fault_text Version = codes "P2"
fault_text KeyMissing = codes "P3"
fault_text NotTexts = codes "P4"
fault_text Malformed = codes "P5"
fault_text Limit = codes "P6"
fault_text GroupTwice = codes "P7"
fault_text RegisterGroups = codes "P8"
fault_text PlaceTwice = codes "P9"
fault_text PairApart = codes "P10"
fault_text NumberTwice = codes "P11"
fault_text CodeTwice = codes "P12"
fault_text UnknownGroup = codes "P13"
fault_text MixedRoute = codes "P14"
fault_text Memory = codes "MEMORY"
