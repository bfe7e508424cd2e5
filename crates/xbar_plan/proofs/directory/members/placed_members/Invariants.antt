use Rattle.std.proofs.Common.{◌≡◌, length, take, get_or, None}
use Rattle.{xbar_equip.specs.Ten.{TrunkPlace, IsTrunkPlace}, xbar_plan.{specs.Numbered.place_number, proofs.PlacedMembers.among_groups}}
use Rattle.xbar_plan.proofs.directory.members.placed_members.Given as goal

-- the members of the groups so far are placed
abbrev pub invariant-loop-number : goal.invariant-loop-number
invariant-loop-number l = record {
  size : length l.members.items ≡ 1000;
  placed : (place : TrunkPlace) → IsTrunkPlace place → get_or l.members.items (place_number place) None ≡ among_groups (take l.number l.groups) place;
}
