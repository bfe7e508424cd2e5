use Rattle.std.specs.Prelude.{◌≡◌, ℕ, true, Some, List}
use Rattle.xbar_equip.specs.Among.{IsIn}
use Rattle.xbar_equip.specs.Ten.{TrunkPlace}
use Rattle.xbar_equip.specs.Path.{IsPath}
use Rattle.xbar_equip.specs.Paths.{IsSet, AreApart, has_place, is_idle}
use Rattle.xbar_equip.specs.declared.path.Path.{Path}
use Rattle.xbar_plan.specs.Group.{stands_at}
use Rattle.xbar_plan.specs.Tables.{Tables, member_at}
use Rattle.xbar_plan.specs.declared.group.Member.{Member}

-- the place is one of a member of the plan
pub record IsMembersPlace (plan : Tables) (place : TrunkPlace) : Type 0 where
  pub group : ℕ
  pub index : ℕ
  pub member : Member
  pub listed : member_at plan group index ≡ Some member
  pub stands : stands_at member place ≡ true

-- each path ends at a member's place, and no two paths share a part: this stays so when single
-- paths are added and removed
pub record IsOrderlySet (plan : Tables) (paths : List Path) : Type 0 where
  pub set : IsSet paths
  pub ranges : (path : Path) → IsIn path paths → IsPath path
  pub places : (path : Path) → IsIn path paths → IsMembersPlace plan path.place
  pub apart : AreApart paths

-- of a pair, both places have a path or neither has
abbrev pub HasBothOrNone : List Path → Member → Type 0
HasBothOrNone paths member =
    (second : TrunkPlace) → member.second ≡ Some second
    → is_idle (has_place member.first) paths ≡ is_idle (has_place second) paths

-- each pair of the plan has both of its paths or neither
abbrev pub HasWholePairs : Tables → List Path → Type 0
HasWholePairs plan paths =
    (group index : ℕ) (member : Member) → member_at plan group index ≡ Some member
    → HasBothOrNone paths member

-- a set that an office may have
pub record IsLawfulSet (plan : Tables) (paths : List Path) : Type 0 where
  pub orderly : IsOrderlySet plan paths
  pub pairs : HasWholePairs plan paths
