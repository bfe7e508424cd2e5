use Rattle.std.specs.Prelude.{ℕ, ◌<◌, ◌==◌, Bool, Option, Some, None, List, [], ◌∷◌, length}
use Rattle.std.specs.Int.{bit_at}
use Rattle.xbar_equip.specs.First.{first_below}
use Rattle.xbar_equip.specs.Word.{GroupWord}
use Rattle.xbar_equip.specs.declared.conn.Conn.TheVariants.{Group}
use Rattle.xbar_plan.specs.Tables.{Tables}
use Rattle.xbar_plan.specs.declared.group.Member.{Member}
use Rattle.xbar_office.specs.Members.{members_of}
use Rattle.turns.specs.Script.{Ends, ◌>>=◌, ◌>>◌, seize}
use Rattle.xbar_jobs.specs.Script.{Script, test}
use Rattle.xbar_jobs.specs.declared.trunks.IdleGroup.{IdleGroup}

-- a trunk group's members, and the value of the group's word
pub record Trunks : Type 0 where
  pub members : List Member
  pub word : ℕ

-- the members of a group of the plan, with the value of the group's word
abbrev pub trunks_of : Tables → ℕ → ℕ → Trunks
trunks_of plan group word = record { members = members_of plan group; word = word }

-- whether a member is idle: its bit in the group's word is 0
abbrev pub is_bit_clear : ℕ → ℕ → Bool
is_bit_clear word index = bit_at word index == 0

-- the first idle member of a group by its word
abbrev pub first_clear : Trunks → Option ℕ
first_clear trunks = first_below (is_bit_clear trunks.word) (length trunks.members)

-- the plan has this group, and the group has this member
pub record IsOfPlan (plan : Tables) (idle : IdleGroup) : Type 0 where
  pub group : idle.group < length plan.groups
  pub first : idle.first < length (members_of plan idle.group)

-- a group that has an idle member is taken; if it has none, the next groups are tried
unfoldable pub idle_or : ℕ → ℕ → Script (Option IdleGroup) → Option ℕ → Script (Option IdleGroup)
idle_or group word next None = next
idle_or group word next (Some first) =
    Ends (Some (record { group = group; word = word; first = first }))

-- the first of some groups that has an idle member: the groups are seized and their words tested
-- in order, until one has
unfoldable pub find_trunk : Tables → List ℕ → Script (Option IdleGroup)
find_trunk plan [] = Ends None
find_trunk plan (group ∷ groups) = do
  seize (Group group)
  word ← test (GroupWord group)
  idle_or group word (find_trunk plan groups) (first_clear (trunks_of plan group word))
