-- trials on a group's members test what is held by then, and the paths that they choose are held
use Rattle.std.proofs.Common.{◌≡◌, ℕ, zero, suc, ◌+◌, ◌<◌, ◌≤◌, List, [], ◌∷◌, ◌++◌, inl, refl, sym, subst, arith, Option, Some, None, IfSome, find}
use Rattle.std.proofs.Common.{option_and_then, option_map, slice_get}
use Rattle.{std.{specs.{Prelude.⊤, Option.option_map_or}, proofs.lemmas.Option.IfSome_then}, turns.specs.{Among.IsIn, Script.{Ends, ◌>>=◌}, System.KeepsTo}}
use Rattle.{turns.proofs.{Keeping.AreAmong, Lists.in_last}, xbar_equip.specs.{First.first_below, Link.Link, Path.path_by, Paths.channel_in_turn}}
use Rattle.xbar_equip.specs.{Ten.{TrunkPlace, IsTrunkPlace}, declared.{conn.Conn.{Conn, TheVariants.{Llf, Tlf}}, path.Path.Path}}
use Rattle.{xbar_match.specs.Channels.{is_open_channel, match_words}, xbar_plan.specs.{Lawful.IsLawful, Tables.{Tables, is_faulty, member_at}}}
use Rattle.xbar_plan.{specs.declared.group.Member.Member, proofs.LawfulPlans.{member-numbers, pair-frame, place_at-range}}
use Rattle.xbar_office.specs.{Members.members_of, Trial.{called_links, end_of, faulty_or_chosen, links}, TwoTrials.{cards_of, second_decides}}
use Rattle.xbar_office.specs.declared.{reply.Card.Card, trial.{CallPaths.CallPaths, TrialEnd.{TrialEnd, TheVariants.{Chosen, Faulty, NoChannel}}}}
use Rattle.xbar_office.{specs.declared.trial.{Choice.Choice, Trials.Trials}, proofs.{GoodTrials.at_group, TakenMembers.second-has}}
use Rattle.xbar_jobs.specs.{Closing.path_closes, Office.office, Sides.{Side, Sides, join, join_called, open_path, reach, reached_after, side_after}}
use Rattle.xbar_jobs.specs.Sides.{test_called, test_junctors, test_place, test_second, test_side, test_sides}
use Rattle.xbar_jobs.specs.Trials.{after_first_trial, first_trial_steps, next_clear, second_trial_at, second_trial_steps, trial_end, two_trials_steps}
use Rattle.xbar_jobs.specs.{Trunks.{Trunks, trunks_of}, declared.{party.{CallParties.CallParties, Party.Party}, trunks.{Reached.Reached, Trunk.Trunk}}}
use Rattle.xbar_jobs.proofs.{HeldEffects.{IsHeldCall, IsHeldIfAny, IsHeldLine, IsHeldPath, IsHeldPlace, line_held, place_held}, Items.if_found}
use Rattle.xbar_jobs.proofs.HeldWords.{keeps_then, line_junctor_under, trunk_switch_under}

-- the lines of the parties, of both sides of a call, and the places of a member that was reached are held
pub record AreHeldParties (held : List Conn) (parties : CallParties) : Type 0 where
  pub calling : IsHeldLine held parties.calling.line
  pub called : IfSome parties.called (λ party. IsHeldLine held party.line)

abbrev HoldsSide : List Conn → Side → Type 0
HoldsSide held side = IsHeldLine held side.party.line

abbrev HoldsCalled : List Conn → Option Side → Type 0
HoldsCalled held called = IfSome called (λ side. HoldsSide held side)

record HoldsSides (held : List Conn) (sides : Sides) : Type 0 where
  calling : HoldsSide held sides.calling
  called : HoldsCalled held sides.called

abbrev HoldsReached : List Conn → Reached → Type 0
HoldsReached held reached = IsHeldPlace held reached.place

abbrev HoldsSecond : List Conn → Option Reached → Type 0
HoldsSecond held second = IfSome second (λ reached. HoldsReached held reached)

record HoldsTrunk (held : List Conn) (trunk : Trunk) : Type 0 where
  first : HoldsReached held trunk.first
  second : HoldsSecond held trunk.second

-- the paths of a trial's end, and those that two trials come to, are held
abbrev HoldsEnd : List Conn → TrialEnd → Type 0
HoldsEnd held (Chosen call) = IsHeldCall held call
HoldsEnd held (Faulty link) = ⊤
HoldsEnd held NoChannel = ⊤

pub record IsHeldChoice (held : List Conn) (choice : Choice) : Type 0 where
  pub paths : IsHeldCall held choice.paths
  pub index : choice.index < 40

abbrev pub HoldsTrials : List Conn → Trials → Type 0
HoldsTrials held trials = IfSome trials.choice (λ choice. IsHeldChoice held choice)

-- with more held they are still held
pub parties_held : (held more : List Conn) (parties : CallParties) → AreAmong held more → AreHeldParties held parties → AreHeldParties more parties
parties_held held more parties among own = record {
  calling = line_held held more among parties.calling.line own.calling;
  called = IfSome_then parties.called own.called (λ party. line_held held more among party.line);
}

sides_held : (held more : List Conn) (sides : Sides) → AreAmong held more → HoldsSides held sides → HoldsSides more sides
sides_held held more sides among own = record {
  calling = line_held held more among sides.calling.party.line own.calling;
  called = IfSome_then sides.called own.called (λ side. line_held held more among side.party.line);
}

trunk_held : (held more : List Conn) (trunk : Trunk) → AreAmong held more → HoldsTrunk held trunk → HoldsTrunk more trunk
trunk_held held more trunk among own = record {
  first = place_held held more among trunk.first.place own.first;
  second = IfSome_then trunk.second own.second (λ reached. place_held held more among reached.place);
}

-- a path from a line to a place that are held is held, whatever its channel
open_held : (held : List Conn) (side : Side) (start : ℕ) (reached : Reached) → HoldsSide held side → HoldsReached held reached
    → IsHeldIfAny held (open_path side start reached)
open_held held side start reached line place =
    of (first_below (λ k. is_open_channel (match_words side.party.word side.junctors reached.word) reached.place.frame (channel_in_turn start k)) 10) where
      of : (found : Option ℕ) → IsHeldIfAny held (option_map (path_by side.party.line reached.place) (option_map (channel_in_turn start) found))
      of None = tt
      of (Some k) = record { line = line; channel = omega arith; place = place }

abbrev HoldsCall : List Conn → Option CallPaths → Type 0
HoldsCall held found = IfSome found (λ call. IsHeldCall held call)

called_joined : (held : List Conn) (start : ℕ) (called : Option Side) (second : Option Reached) (calling : Path) → HoldsCalled held called
    → HoldsSecond held second → IsHeldPath held calling → HoldsCall held (join_called called start second calling)
called_joined held start (Some side) (Some reached) calling line place own =
    of (open_path (side_after (path_closes calling) side) start (reached_after (path_closes calling) reached))
    (open_held held (side_after (path_closes calling) side) start (reached_after (path_closes calling) reached) line place) where
      of : (found : Option Path) → IsHeldIfAny held found → HoldsCall held (option_map (λ called. record { calling = calling; called = Some called }) found)
      of None none = tt
      of (Some path) path_own = record { calling = own; called = path_own }
called_joined held start (Some side) None calling line place own = record { calling = own; called = tt }
called_joined held start None second calling line place own = record { calling = own; called = tt }

-- what joins sides to a member that are held is held
joined : (held : List Conn) (sides : Sides) (start : ℕ) (trunk : Trunk) → HoldsSides held sides → HoldsTrunk held trunk
    → HoldsCall held (join sides start trunk)
joined held sides start trunk lines places =
    of (open_path sides.calling start trunk.first) (open_held held sides.calling start trunk.first lines.calling places.first) where
      of : (found : Option Path) → IsHeldIfAny held found → HoldsCall held (option_and_then (join_called sides.called start trunk.second) found)
      of None none = tt
      of (Some path) own = called_joined held start sides.called trunk.second path lines.called places.second own

-- and so is what a trial on it chooses
ended : (plan : Tables) (held : List Conn) (found : Option CallPaths) → HoldsCall held found → HoldsEnd held (end_of plan found)
ended plan held None none = tt
ended plan held (Some call) own = of (find (is_faulty plan) (links call.calling ++ called_links call.called)) where
  of : (fault : Option Link) → HoldsEnd held (faulty_or_chosen call fault)
  of None = own
  of (Some link) = tt

good_trial : (plan : Tables) (held : List Conn) (sides : Sides) (start : ℕ) (trunk : Trunk) → HoldsSides held sides → HoldsTrunk held trunk
    → HoldsEnd held (trial_end plan sides start trunk)
good_trial plan held sides start trunk lines places = ended plan held (join sides start trunk) (joined held sides start trunk lines places)

decides_held : (held : List Conn) (cards : List Card) (index : ℕ) (end : TrialEnd) → index < 40 → HoldsEnd held end
    → HoldsTrials held (second_decides cards index end)
decides_held held cards index (Chosen call) below own = record { paths = own; index = below }
decides_held held cards index (Faulty link) below own = tt
decides_held held cards index NoChannel below own = tt

abbrev Anything : {A : Type 0} → List Conn → A → Type 0
Anything held found = ⊤

module _ (plan : Tables) where
  -- with their frame held, line junctor switches may be tested
  junctors_keep : (held : List Conn) (frame channel count : ℕ) → IsIn (Llf frame) held → frame < 10 → channel + count ≤ 10
      → KeepsTo (office plan) Anything held (test_junctors frame channel count)
  unfolding KeepsTo test_junctors ◌>>=◌
  junctors_keep held frame channel zero own below range = tt
  junctors_keep held frame channel (suc count) own below range = (
    line_junctor_under plan held frame channel own below (omega arith),
    λ word fits. keeps_then plan Anything Anything held (test_junctors frame (channel + 1) count) (λ words. Ends (word ∷ words))
        (junctors_keep held frame (channel + 1) count own below (omega arith)) (λ conns words among any. tt),
  )

  side_keeps : (held : List Conn) (party : Party) → IsHeldLine held party.line → KeepsTo (office plan) HoldsSide held (test_side party)
  unfolding KeepsTo test_side
  side_keeps held party own =
      keeps_then plan Anything HoldsSide held (test_junctors party.line.frame 0 10) _
      (junctors_keep held party.line.frame 0 10 own.own own.range.frame (omega arith))
      (λ conns words among any. line_held held conns among party.line own)

  called_keeps : (held : List Conn) (called : Option Party) → IfSome called (λ party. IsHeldLine held party.line)
      → KeepsTo (office plan) HoldsCalled held (test_called called)
  unfolding KeepsTo test_called
  called_keeps held None own = tt
  called_keeps held (Some party) own =
      keeps_then plan HoldsSide HoldsCalled held (test_side party) _ (side_keeps held party own) (λ conns side among line. line)

  -- so may those of both parties' frames
  sides_keep : (held : List Conn) (parties : CallParties) → AreHeldParties held parties → KeepsTo (office plan) HoldsSides held (test_sides parties)
  unfolding KeepsTo test_sides
  sides_keep held parties own =
      keeps_then plan HoldsSide HoldsSides held (test_side parties.calling) _ (side_keeps held parties.calling own.calling)
      (
      λ conns calling among line.
      keeps_then plan HoldsCalled HoldsSides conns (test_called parties.called) _
      (called_keeps conns parties.called (IfSome_then parties.called own.called (λ party. line_held held conns among party.line)))
      (λ later called still lines. record { calling = line_held conns later still calling.party.line line; called = lines })
      )

  place_keeps : (held : List Conn) (place : TrunkPlace) → IsHeldPlace held place → KeepsTo (office plan) HoldsReached held (test_place place)
  unfolding KeepsTo test_place ◌>>=◌
  place_keeps held place own = (trunk_switch_under plan held place.frame place.switch own.own own.range.frame own.range.switch, λ word fits. own)

  second_keeps : (held : List Conn) (second : Option TrunkPlace) → IfSome second (λ place. IsHeldPlace held place)
      → KeepsTo (office plan) HoldsSecond held (test_second second)
  unfolding KeepsTo test_second
  second_keeps held None own = tt
  second_keeps held (Some place) own =
      keeps_then plan HoldsReached HoldsSecond held (test_place place) _ (place_keeps held place own) (λ conns reached among there. there)

-- a member's places are in range, on one frame
record AreOnFrame (member : Member) : Type 0 where
  first : IsTrunkPlace member.first
  second : IfSome member.second (λ place. IsTrunkPlace place × (place.frame ≡ member.first.frame))

module _ (plan : Tables) (held : List Conn) (member : Member) (on_frame : AreOnFrame member) where
  reached : List Conn
  reached = held ++ Tlf member.first.frame ∷ []

  has_reached : IsIn (Tlf member.first.frame) reached
  unfolding reached
  has_reached = in_last (Tlf member.first.frame) held

  second_reached : IfSome member.second (λ place. IsHeldPlace reached place)
  second_reached =
      IfSome_then member.second on_frame.second (λ place is.
      record { range = is.0; own = subst (λ (frame : ℕ). IsIn (Tlf frame) reached) (sym is.1) has_reached })

  -- a member's frame is seized, and its places are tested with it held
  reach_keeps : KeepsTo (office plan) HoldsTrunk held (reach member)
  unfolding KeepsTo reach ◌>>=◌ reached
  reach_keeps = (
    on_frame.first.frame,
    keeps_then plan HoldsReached HoldsTrunk reached (test_place member.first) _
        (place_keeps plan reached member.first (record { range = on_frame.first; own = has_reached }))
        (
        λ conns first among there.
        keeps_then plan HoldsSecond HoldsTrunk conns (test_second member.second) _
        (second_keeps plan conns member.second (IfSome_then member.second second_reached (λ place. place_held reached conns among place)))
        (λ later second still others. record { first = place_held conns later still first.place there; second = others })
        ),
  )

module _ (plan : Tables) (laws : IsLawful plan) (number : ℕ) where
  abbrev members : List Member
  members = members_of plan number

  listed : (index : ℕ) (member : Member) → slice_get members index ≡ Some member → member_at plan number index ≡ Some member
  listed index member here = at_group index member (slice_get plan.groups number) here

  each_on_frame : (index : ℕ) (member : Member) → slice_get members index ≡ Some member → AreOnFrame member
  each_on_frame index member here = record {
    first = place_at-range plan laws number index member member.first (listed index member here) (inl refl);
    second = if_found member.second (
        λ place is. (
          place_at-range plan laws number index member place (listed index member here) (second-has member place is),
          pair-frame plan laws number index member place (listed index member here) is,
        )
        );
  }

  index_below : (index : ℕ) (member : Member) → slice_get members index ≡ Some member → index < 40
  index_below index member here = (member-numbers plan laws number index member (listed index member here)).1

  module _ (sides : Sides) (word : ℕ) where
    trunks : Trunks
    trunks = trunks_of plan number word

    second_trial_keeps : (held : List Conn) (cards : List Card) (index : ℕ) → HoldsSides held sides
        → KeepsTo (office plan) HoldsTrials held (second_trial_at plan sides trunks cards index)
    unfolding KeepsTo second_trial_at second_trial_steps trunks
    second_trial_keeps held cards index lines = at (slice_get members index) refl where
      at : (o : Option Member) → slice_get members index ≡ o
          → KeepsTo (office plan) HoldsTrials held (option_map_or (second_trial_steps plan sides cards index) o (Ends (second_decides cards index NoChannel)))
      at None here = tt
      at (Some member) here =
          keeps_then plan HoldsTrunk HoldsTrials held (reach member) _ (reach_keeps plan held member (each_on_frame index member here))
          (
          λ conns trunk among places.
          decides_held conns cards index (trial_end plan sides 5 trunk) (index_below index member here)
          (good_trial plan conns sides 5 trunk (sides_held held conns sides among lines) places)
          )

    after_trial_keeps : (held : List Conn) (first : ℕ) (end : TrialEnd) → first < 40 → HoldsSides held sides → HoldsEnd held end
        → KeepsTo (office plan) HoldsTrials held (after_first_trial plan sides trunks first end)
    unfolding KeepsTo after_first_trial
    after_trial_keeps held first (Chosen call) below lines own = record { paths = own; index = below }
    after_trial_keeps held first (Faulty link) below lines own = second_trial_keeps held (cards_of 1 (Faulty link)) (next_clear trunks first) lines
    after_trial_keeps held first NoChannel below lines own = second_trial_keeps held [] (next_clear trunks first) lines

  first_trial_keeps : (held : List Conn) (parties : CallParties) (word first : ℕ) (member : Member) → slice_get members first ≡ Some member
      → AreHeldParties held parties → KeepsTo (office plan) HoldsTrials held (first_trial_steps plan parties (trunks_of plan number word) first member)
  unfolding first_trial_steps trunks
  first_trial_keeps held parties word first member here own =
      keeps_then plan HoldsTrunk HoldsTrials held (reach member) _ (reach_keeps plan held member (each_on_frame first member here))
      (
      λ conns trunk among places.
      keeps_then plan HoldsSides HoldsTrials conns (test_sides parties) _ (sides_keep plan conns parties (parties_held held conns parties among own))
      (
      λ later sides still lines.
      after_trial_keeps sides word later first (trial_end plan sides 0 trunk) (index_below first member here) lines
      (good_trial plan later sides 0 trunk lines (trunk_held conns later trunk still places))
      )
      )

  -- two trials on the group's members keep to what is held, with the parties' lines among it, and choose paths that are held then
  pub two_trials_keep : (held : List Conn) (parties : CallParties) (word first : ℕ) → AreHeldParties held parties
      → KeepsTo (office plan) HoldsTrials held (two_trials_steps plan parties (trunks_of plan number word) first)
  unfolding KeepsTo two_trials_steps
  two_trials_keep held parties word first own = at (slice_get members first) refl where
    at : (o : Option Member) → slice_get members first ≡ o
        → KeepsTo (office plan) HoldsTrials held (option_map_or (first_trial_steps plan parties (trunks_of plan number word) first) o
        (Ends (second_decides [] first NoChannel)))
    at None here = tt
    at (Some member) here = first_trial_keeps held parties word first member here own
