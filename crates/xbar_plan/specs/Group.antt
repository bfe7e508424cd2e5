use Rattle.std.specs.Prelude.{ℕ, Bool, true, false, Option, Some, List, ◌∷◌, if◌then◌else◌, option_to_list}
use Rattle.std.specs.List.{list_any}
use Rattle.xbar_equip.specs.Ten.{TrunkPlace, place_eq}
use Rattle.xbar_plan.specs.declared.group.GroupKind.{GroupKind}
use Rattle.xbar_plan.specs.declared.group.GroupKind.TheVariants.{Register, Intra, Outgoing}
use Rattle.xbar_plan.specs.declared.group.Member.{Member}

-- a trunk group: its name, what its members are, and the members in order
pub record TrunkGroup : Type 0 where
  pub name : List ℕ
  pub kind : GroupKind
  pub members : List Member

-- whether two kinds are the same
abbrev pub kind_eq : GroupKind → GroupKind → Bool
kind_eq Register Register = true
kind_eq Intra Intra = true
kind_eq Outgoing Outgoing = true
kind_eq _ _ = false

-- whether the group's members are registers
abbrev pub is_register : TrunkGroup → Bool
is_register group = kind_eq group.kind Register

-- whether the group's members are trunks between two lines of the office
abbrev pub is_intra : TrunkGroup → Bool
is_intra group = kind_eq group.kind Intra

-- whether the group's members are trunks to another office
abbrev pub is_outgoing : TrunkGroup → Bool
is_outgoing group = kind_eq group.kind Outgoing

-- the trunk places of a member: one, or two of an intra member, the calling side's first
abbrev pub places : Member → List TrunkPlace
places member = member.first ∷ option_to_list member.second

-- whether the place is one of the member's places
abbrev pub stands_at : Member → TrunkPlace → Bool
stands_at member place = list_any (λ own. place_eq own place) (places member)

-- given one of the member's places, the other one, if there are two
abbrev pub other_place : Member → TrunkPlace → Option TrunkPlace
other_place member place = if place_eq member.first place then member.second else Some member.first
