use Rattle.std.specs.Prelude.{◌≡◌, ℕ, ◌<◌, ◌≤◌, Option, Some, List, [], ◌++◌, slice_index}
use Rattle.std.specs.Int.{bit_at}
use Rattle.std.specs.Option.{option_map_or}
use Rattle.turns.specs.Among.{IsIn}
use Rattle.turns.specs.System.{AreDue, perform_all}
use Rattle.xbar_equip.specs.Crosspoint.{crosspoints}
use Rattle.xbar_equip.specs.Word.{GroupWord}
use Rattle.xbar_equip.specs.declared.crosspoint.Crosspoint.{Crosspoint}
use Rattle.xbar_equip.specs.declared.path.Path.{Path}
use Rattle.xbar_match.specs.Switches.{held_at, word_of}
use Rattle.xbar_plan.specs.Tables.{Tables, member_place}
use Rattle.xbar_plan.specs.declared.group.MemberPlace.{MemberPlace}
use Rattle.xbar_jobs.specs.Closing.{leave_effects, leave_of}
use Rattle.xbar_jobs.specs.Office.{office}
use Rattle.xbar_jobs.specs.declared.effect.Effect.{Effect}

-- the crosspoints of a call: those of a party's own path, and those of the other party's, if there
-- is one
abbrev pub call_crosspoints : Path → Option Path → List Crosspoint
call_crosspoints own other = crosspoints own ++ option_map_or crosspoints other []

-- field `v` of word `n` is that of one of these crosspoints
pub record IsFieldOf (cs : List Crosspoint) (n v : ℕ) : Type 0 where
  pub c : Crosspoint
  pub within : IsIn c cs
  pub word : c.word ≡ n
  pub field : c.field ≡ v

-- the words after differ from the words before only in these crosspoints, which are closed before
-- and open after, and in a member's bit, which is 1 before and 0 after
pub record OpensJust (cs : List Crosspoint) (number index : ℕ) (words after : List ℕ) : Type 0 where
  pub closed : (c : Crosspoint) → IsIn c cs → held_at words c.word c.field ≡ c.value
  pub opened : (c : Crosspoint) → IsIn c cs → held_at after c.word c.field ≡ 0
  pub fields : (n v : ℕ) → n < 400 → v < 10 → ¬ IsFieldOf cs n v
      → held_at after n v ≡ held_at words n v
  pub busy : bit_at (word_of words (GroupWord number)) index ≡ 1
  pub idle : bit_at (word_of after (GroupWord number)) index ≡ 0
  pub bits : (group member : ℕ) → group < 16 → ¬ ((group ≡ number) × (member ≡ index))
      → bit_at (word_of after (GroupWord group)) member
      ≡ bit_at (word_of words (GroupWord group)) member
  pub behind : (n : ℕ) → 416 ≤ n → slice_index after n ≡ slice_index words n

-- the effects on these words are those of a release: they open the crosspoints of a call, each of
-- which is closed until then, clear the bit of the call's member, and change nothing else
pub record ReleasesJust (plan : Tables) (own : Path) (other : Option Path) (words : List ℕ)
    (effects : List Effect) : Type 0 where
  pub found : MemberPlace
  pub here : member_place plan own.place ≡ Some found
  pub effects_are : effects ≡ leave_effects (leave_of own other found)
  pub due : AreDue (office plan) words effects
  pub change : OpensJust (call_crosspoints own other) found.group found.index words
      (perform_all (office plan) words effects)
