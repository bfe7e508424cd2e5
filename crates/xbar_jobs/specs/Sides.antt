use Rattle.std.specs.Prelude.{◌≡◌, ℕ, zero, suc, ◌+◌, ◌<◌, Option, Some, None, List, [], ◌∷◌, option_map, option_and_then}
use Rattle.xbar_equip.specs.Path.{path_by}
use Rattle.xbar_equip.specs.Ten.{TrunkPlace}
use Rattle.xbar_equip.specs.Word.{LineJunctor, LineSwitch, TrunkSwitch, word_number}
use Rattle.xbar_equip.specs.declared.conn.Conn.TheVariants.{Tlf}
use Rattle.xbar_equip.specs.declared.path.Path.{Path}
use Rattle.xbar_match.specs.Channels.{match_words, first_open_channel}
use Rattle.xbar_plan.specs.declared.group.Member.{Member}
use Rattle.xbar_office.specs.declared.trial.CallPaths.{CallPaths}
use Rattle.turns.specs.Script.{Ends, ◌>>=◌, ◌>>◌, seize}
use Rattle.xbar_jobs.specs.Closing.{value_after, path_closes}
use Rattle.xbar_jobs.specs.Script.{Script, test}
use Rattle.xbar_jobs.specs.declared.effect.Effect.{Effect}
use Rattle.xbar_jobs.specs.declared.party.CallParties.{CallParties}
use Rattle.xbar_jobs.specs.declared.party.Party.{Party}
use Rattle.xbar_jobs.specs.declared.trunks.Reached.{Reached}
use Rattle.xbar_jobs.specs.declared.trunks.Trunk.{Trunk}

-- one side of a call: the party, and the words of its frame's ten line junctor switches
pub record Side : Type 0 where
  pub party : Party
  pub junctors : List ℕ

-- both sides of a call, or the calling one alone
pub record Sides : Type 0 where
  pub calling : Side
  pub called : Option Side

-- test the line junctor switches of a frame, `count` of them from a channel on, in order
unfoldable pub test_junctors : ℕ → ℕ → ℕ → Script (List ℕ)
test_junctors frame channel zero = Ends []
test_junctors frame channel (suc count) = do
  word ← test (LineJunctor frame channel)
  words ← test_junctors frame (channel + 1) count
  Ends (word ∷ words)

-- the second word is the line junctor switch that follows the first, in the order of a frame's ten
pub record IsNextJunctor (number next : ℕ) : Type 0 where
  pub frame : ℕ
  pub channel : ℕ
  pub frame_range : frame < 10
  pub channel_range : channel < 9
  pub this : number ≡ word_number (LineJunctor frame channel)
  pub that : next ≡ word_number (LineJunctor frame (channel + 1))

-- test the line junctor switches of a party's frame
unfoldable pub test_side : Party → Script Side
test_side party = do
  junctors ← test_junctors party.line.frame 0 10
  Ends (record { party = party; junctors = junctors })

-- test the called side, if there is a called party
unfoldable pub test_called : Option Party → Script (Option Side)
test_called None = Ends None
test_called (Some party) = do
  side ← test_side party
  Ends (Some side)

-- test the line junctor switches of the calling party's frame, and of the called one's, if there
-- is one
unfoldable pub test_sides : CallParties → Script Sides
test_sides parties = do
  calling ← test_side parties.calling
  called ← test_called parties.called
  Ends (record { calling = calling; called = called })

-- test the trunk switch of a place
unfoldable pub test_place : TrunkPlace → Script Reached
test_place place = do
  word ← test (TrunkSwitch place.frame place.switch)
  Ends (record { place = place; word = word })

-- test the trunk switch of the second place, if there is one
unfoldable pub test_second : Option TrunkPlace → Script (Option Reached)
test_second None = Ends None
test_second (Some place) = do
  reached ← test_place place
  Ends (Some reached)

-- reach a member: seize its trunk link frame, and test the trunk switch of its place, or of both
-- its places
unfoldable pub reach : Member → Script Trunk
reach member = do
  seize (Tlf member.first.frame)
  first ← test_place member.first
  second ← test_second member.second
  Ends (record { first = first; second = second })

-- the path from a side's line to a place by the first channel, from `start` on, whose three fields
-- are open
abbrev pub open_path : Side → ℕ → Reached → Option Path
open_path side start reached =
    option_map (path_by side.party.line reached.place)
    (first_open_channel (match_words side.party.word side.junctors reached.word)
    reached.place.frame start)

-- a party with its word as effects will leave it
abbrev pub party_after : List Effect → Party → Party
party_after effects party = record {
  line = party.line;
  word = value_after effects (word_number (LineSwitch party.line.frame party.line.switch))
      party.word;
}

-- the words of line junctor switches, from a channel on, as effects will leave them
abbrev pub junctors_after : List Effect → ℕ → ℕ → List ℕ → List ℕ
junctors_after effects frame channel [] = []
junctors_after effects frame channel (word ∷ words) =
    value_after effects (word_number (LineJunctor frame channel)) word
    ∷ junctors_after effects frame (channel + 1) words

-- a side with its words as effects will leave them
abbrev pub side_after : List Effect → Side → Side
side_after effects side = record {
  party = party_after effects side.party;
  junctors = junctors_after effects side.party.line.frame 0 side.junctors;
}

-- a trunk place with its word as effects will leave it
abbrev pub reached_after : List Effect → Reached → Reached
reached_after effects reached = record {
  place = reached.place;
  word = value_after effects (word_number (TrunkSwitch reached.place.frame reached.place.switch))
      reached.word;
}

-- the called side is joined to the second place, with the same start, on the words as they will be
-- once the calling path is closed
abbrev pub join_called : Option Side → ℕ → Option Reached → Path → Option CallPaths
join_called (Some side) start (Some reached) calling =
    option_map (λ called. record { calling = calling; called = Some called })
    (open_path (side_after (path_closes calling) side) start
    (reached_after (path_closes calling) reached))
join_called (Some side) start None calling = Some (record { calling = calling; called = None })
join_called None start reached calling = Some (record { calling = calling; called = None })

-- the paths that join the sides to a member, if each side finds a channel
abbrev pub join : Sides → ℕ → Trunk → Option CallPaths
join sides start trunk =
    option_and_then (join_called sides.called start trunk.second)
    (open_path sides.calling start trunk.first)
