-- how much it takes to find an idle member, and to try one
use Rattle.std.proofs.Common.{ℕ, zero, suc, ◌+◌, ◌-◌, ◌≤◌, List, [], ◌∷◌, length, arith, Option, Some, None, slice_get}
use Rattle.{std.specs.Option.option_map_or, turns.specs.Script.{Ends, ◌>>=◌}, xbar_equip.specs.Ten.TrunkPlace, xbar_plan.specs.Tables.Tables}
use Rattle.{xbar_plan.specs.declared.group.Member.Member, xbar_office.specs.{TwoTrials.{cards_of, second_decides}, declared.{aim.Aim.Aim, reply.Card.Card}}}
use Rattle.{xbar_office.specs.declared.trial.TrialEnd.{TrialEnd, TheVariants.{Chosen, Faulty, NoChannel}}, xbar_jobs.specs.Connecting.{connect, try_trunk}}
use Rattle.xbar_jobs.specs.{Script.Script, Sides.{Sides, reach, test_called, test_junctors, test_place, test_second, test_side, test_sides}}
use Rattle.xbar_jobs.specs.Trials.{after_first_trial, first_trial_steps, next_clear, second_trial_at, second_trial_steps, trial_end, two_trials_steps}
use Rattle.xbar_jobs.specs.{Trunks.{Trunks, find_trunk, first_clear, idle_or, trunks_of}, declared.party.{CallParties.CallParties, Party.Party}}
use Rattle.xbar_jobs.{specs.declared.trunks.IdleGroup.IdleGroup, proofs.AskBounds.{Asks, asks_end, asks_more, asks_then}}

-- the tests of line junctor switches are as many as are counted
junctors_ask : (frame channel count : ℕ) → Asks count 0 0 (test_junctors frame channel count)
unfolding Asks test_junctors ◌>>=◌
junctors_ask frame channel zero = tt
junctors_ask frame channel (suc count) =
    λ word. asks_end count 0 0 (test_junctors frame (channel + 1) count) (λ words. Ends (word ∷ words)) (junctors_ask frame (channel + 1) count) (λ words. tt)

-- a side has ten of them
side_asks : (party : Party) → Asks 10 0 0 (test_side party)
unfolding Asks test_side
side_asks party = asks_end 10 0 0 (test_junctors party.line.frame 0 10) _ (junctors_ask party.line.frame 0 10) (λ words. tt)

called_asks : (called : Option Party) → Asks 10 0 0 (test_called called)
unfolding Asks test_called
called_asks None = tt
called_asks (Some party) = asks_end 10 0 0 (test_side party) _ (side_asks party) (λ side. tt)

sides_ask : (parties : CallParties) → Asks 20 0 0 (test_sides parties)
unfolding Asks test_sides
sides_ask parties =
    asks_then 10 0 0 10 0 0 (test_side parties.calling) _ (side_asks parties.calling)
    (λ calling. asks_end 10 0 0 (test_called parties.called) _ (called_asks parties.called) (λ called. tt))

-- a member is reached with two tests and one seizing, of a trunk link frame
place_asks : (place : TrunkPlace) → Asks 1 0 0 (test_place place)
unfolding Asks test_place ◌>>=◌
place_asks place = λ word. tt

second_asks : (second : Option TrunkPlace) → Asks 1 0 0 (test_second second)
unfolding Asks test_second
second_asks None = tt
second_asks (Some place) = asks_end 1 0 0 (test_place place) _ (place_asks place) (λ reached. tt)

reach_asks : (member : Member) → Asks 2 1 1 (reach member)
unfolding Asks reach ◌>>=◌
reach_asks member = (
  omega arith,
  asks_then 1 0 0 1 0 0 (test_place member.first) _ (place_asks member.first)
      (λ first. asks_end 1 0 0 (test_second member.second) _ (second_asks member.second) (λ second. tt)),
)

-- the second trial has no more
second_trial_asks : (plan : Tables) (sides : Sides) (cards : List Card) (index : ℕ) (member : Member)
    → Asks 2 1 1 (second_trial_steps plan sides cards index member)
unfolding Asks second_trial_steps
second_trial_asks plan sides cards index member = asks_end 2 1 1 (reach member) _ (reach_asks member) (λ trunk. tt)

-- if there is no member of this index, it asks for nothing
second_trial_at_asks : (plan : Tables) (sides : Sides) (trunks : Trunks) (cards : List Card) (index : ℕ)
    → Asks 2 1 1 (second_trial_at plan sides trunks cards index)
unfolding Asks second_trial_at
second_trial_at_asks plan sides trunks cards index = at (slice_get trunks.members index) where
  at : (o : Option Member) → Asks 2 1 1 (option_map_or (second_trial_steps plan sides cards index) o (Ends (second_decides cards index NoChannel)))
  at None = tt
  at (Some member) = second_trial_asks plan sides cards index member

-- nor has what follows the first one
after_trial_asks : (plan : Tables) (sides : Sides) (trunks : Trunks) (first : ℕ) (end : TrialEnd) → Asks 2 1 1 (after_first_trial plan sides trunks first end)
unfolding Asks after_first_trial
after_trial_asks plan sides trunks first (Chosen call) = tt
after_trial_asks plan sides trunks first (Faulty link) = second_trial_at_asks plan sides trunks (cards_of 1 (Faulty link)) (next_clear trunks first)
after_trial_asks plan sides trunks first NoChannel = second_trial_at_asks plan sides trunks [] (next_clear trunks first)

-- the first trial has the tests of the line junctor switches besides
first_trial_asks : (plan : Tables) (parties : CallParties) (trunks : Trunks) (first : ℕ) (member : Member)
    → Asks 24 2 2 (first_trial_steps plan parties trunks first member)
unfolding first_trial_steps
first_trial_asks plan parties trunks first member =
    asks_then 2 1 1 22 1 1 (reach member) _ (reach_asks member)
    (λ trunk. asks_then 20 0 0 2 1 1 (test_sides parties) _ (sides_ask parties)
    (λ sides. after_trial_asks plan sides trunks first (trial_end plan sides 0 trunk)))

-- so two trials have 24 tests and two seizings
two_trials_ask : (plan : Tables) (parties : CallParties) (trunks : Trunks) (first : ℕ) → Asks 24 2 2 (two_trials_steps plan parties trunks first)
unfolding Asks two_trials_steps
two_trials_ask plan parties trunks first = at (slice_get trunks.members first) where
  at : (o : Option Member) → Asks 24 2 2 (option_map_or (first_trial_steps plan parties trunks first) o (Ends (second_decides [] first NoChannel)))
  at None = tt
  at (Some member) = first_trial_asks plan parties trunks first member

-- a group that is looked at has a test and a seizing
idle_asks : (group word tests seizings most : ℕ) (next : Script (Option IdleGroup)) (found : Option ℕ) → Asks tests seizings most next
    → Asks tests seizings most (idle_or group word next found)
unfolding Asks idle_or
idle_asks group word tests seizings most next None asks = asks
idle_asks group word tests seizings most next (Some first) asks = tt

find_asks : (plan : Tables) (groups : List ℕ) → Asks (length groups) (length groups) (length groups) (find_trunk plan groups)
unfolding Asks find_trunk ◌>>=◌
find_asks plan [] = tt
find_asks plan (group ∷ groups) =
    let count = length groups in
    let left = suc (length groups) - 1 in
    let later = asks_more count count count count count left (find_trunk plan groups) (omega arith) (omega arith) (omega arith) (find_asks plan groups) in
    (omega arith, λ word. idle_asks group word count count left (find_trunk plan groups) (first_clear (trunks_of plan group word)) later)

try_asks : (plan : Tables) (aim : Aim) (parties : CallParties) (idle : Option IdleGroup) → Asks 24 2 2 (try_trunk plan aim parties idle)
unfolding Asks try_trunk
try_asks plan aim parties None = tt
try_asks plan aim parties (Some idle) =
    let trunks = trunks_of plan idle.group idle.word in
    asks_end 24 2 2 (two_trials_steps plan parties trunks idle.first) _ (two_trials_ask plan parties trunks idle.first) (λ trials. tt)

-- parties are connected by one of `count` groups at most, with a test and a seizing for each, and
-- two trials
pub connect_asks : (plan : Tables) (aim : Aim) (parties : CallParties) (groups : List ℕ) (count : ℕ) → length groups ≤ count
    → Asks (count + 24) (count + 2) (count + 2) (connect plan aim parties groups)
unfolding connect
connect_asks plan aim parties groups count few =
    asks_then count count count 24 2 2 (find_trunk plan groups) _
    (asks_more (length groups) (length groups) (length groups) count count count (find_trunk plan groups) few few few (find_asks plan groups))
    (λ idle. try_asks plan aim parties idle)
