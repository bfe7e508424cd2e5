use Rattle.std.specs.Prelude.{ℕ, Option, Some, None, List, [], ◌∷◌, ◌++◌, find, option_map, option_and_then}
use Rattle.xbar_equip.specs.Link.{Link}
use Rattle.xbar_equip.specs.Path.{path_by, line_link, junctor, trunk_link}
use Rattle.xbar_equip.specs.Paths.{channel_test, with_path}
use Rattle.xbar_equip.specs.declared.path.Path.{Path}
use Rattle.xbar_plan.specs.Tables.{Tables, is_faulty}
use Rattle.xbar_plan.specs.declared.group.Member.{Member}
use Rattle.xbar_office.specs.declared.trial.Parties.{Parties}
use Rattle.xbar_office.specs.declared.trial.Leg.{Leg}
use Rattle.xbar_office.specs.declared.trial.CallPaths.{CallPaths}
use Rattle.xbar_office.specs.declared.trial.TrialEnd.{TrialEnd}
use Rattle.xbar_office.specs.declared.trial.TrialEnd.TheVariants.{Chosen, Faulty, NoChannel}

-- the calling line is to be joined to the member's first place
abbrev pub calling_leg : Parties → Member → Leg
calling_leg parties member = record { line = parties.calling; place = member.first }

-- the called line, if there is one, is to be joined to the second place of a pair
abbrev pub called_leg : Parties → Member → Option Leg
called_leg parties member =
    option_and_then (λ line. option_map
    (λ place. record { line = line; place = place }) member.second) parties.called

-- the path for a leg, by the channel test from `start` on
abbrev pub leg_path : List Path → ℕ → Leg → Option Path
leg_path paths start leg =
    option_map (path_by leg.line leg.place) (channel_test paths leg.line leg.place start)

-- the calling path, with a path for the called line's leg if there is one: it is found in the set
-- with the calling path added, with the same start
abbrev pub with_called : List Path → ℕ → Option Leg → Path → Option CallPaths
with_called paths start None calling = Some (record { calling = calling; called = None })
with_called paths start (Some leg) calling =
    option_map (λ called. record { calling = calling; called = Some called })
    (leg_path (with_path paths calling) start leg)

-- the paths that join the parties to the member, if each of them finds a channel
abbrev pub matched : List Path → ℕ → Parties → Member → Option CallPaths
matched paths start parties member =
    option_and_then (with_called paths start (called_leg parties member))
    (leg_path paths start (calling_leg parties member))

-- a path's links, in the order in which they are looked up in the fault list
abbrev pub links : Path → List Link
links path = line_link path ∷ junctor path ∷ trunk_link path ∷ []

-- the links of the called path, if there is one, in the same order
abbrev pub called_links : Option Path → List Link
called_links None = []
called_links (Some called) = links called

-- a trial is faulty if a link of the chosen paths is out of order
abbrev pub faulty_or_chosen : CallPaths → Option Link → TrialEnd
faulty_or_chosen call None = Chosen call
faulty_or_chosen call (Some link) = Faulty link

-- the end of a trial that chose these paths, by their first link that is out of order, the calling
-- path's links first
abbrev pub end_of_chosen : Tables → CallPaths → TrialEnd
end_of_chosen plan call =
    faulty_or_chosen call (find (is_faulty plan) (links call.calling ++ called_links call.called))

-- the end of a trial: without a channel, or that of its chosen paths
abbrev pub end_of : Tables → Option CallPaths → TrialEnd
end_of plan None = NoChannel
end_of plan (Some call) = end_of_chosen plan call

-- a trial: tries to join the parties to a member, with this start of the channel test
abbrev pub trial : Tables → List Path → ℕ → Parties → Member → TrialEnd
trial plan paths start parties member = end_of plan (matched paths start parties member)
