-- the calling path of a call is of the calling line
use Rattle.std.proofs.Common.{◌≡◌, ℕ, Bool, true, false, List, [], ◌∷◌, refl, sym, ◌∙◌, ap, Option, Some, None, slice_get, option_map, option_and_then}
use Rattle.std.proofs.Common.{if◌then◌else◌}
use Rattle.{std.specs.Option.option_map_or, xbar_equip.specs.{Dialled.{code_of, number_of}, Len.Line, Link.Link, Path.path_by, Paths.{channel_test, with_path}}}
use Rattle.{xbar_equip.specs.{Paths.without_path, declared.path.Path.Path}, xbar_plan.specs.{Tables.{Tables, lines_of, route_of}, declared.group.Member.Member}}
use Rattle.xbar_office.specs.{Complete.{try_trunk, connect, call_line, call_number, call, complete_from, complete}, Members.{members_of, next_idle}}
use Rattle.xbar_office.specs.{Replies.trials_end, Standing.register_path, Trial.{called_leg, with_called, matched, end_of, faulty_or_chosen, trial}}
use Rattle.xbar_office.specs.{Trunks.{leads_inside, called_line, idle_trunk}, TwoTrials.{first_decides, second_decides, trial_at, two_trials}}
use Rattle.xbar_office.specs.declared.{reply.{Card.Card, End.{End, TheVariants.Connected}}, route.IdleTrunk.IdleTrunk, trial.{CallPaths.CallPaths, Leg.Leg}}
use Rattle.xbar_office.specs.declared.trial.{Parties.Parties, TrialEnd.{TrialEnd, TheVariants.{Chosen, Faulty, NoChannel}}, Choice.Choice}
use Rattle.xbar_office.specs.declared.aim.Aim.TheVariants as aim

module _ (plan : Tables) (paths : List Path) (parties : Parties) where
  abbrev IsFound : Option CallPaths → Type 0
  IsFound None = Unit {0}
  IsFound (Some found) = found.calling.line ≡ parties.calling

  abbrev IsEnd : TrialEnd → Type 0
  IsEnd (Chosen found) = found.calling.line ≡ parties.calling
  IsEnd (Faulty link) = Unit {0}
  IsEnd NoChannel = Unit {0}

  abbrev pub IsChoice : Option Choice → Type 0
  IsChoice None = Unit {0}
  IsChoice (Some choice) = choice.paths.calling.line ≡ parties.calling

  with_called_path : (calling : Path) → calling.line ≡ parties.calling → (found : Option Path)
      → IsFound (option_map (λ called. record { calling = calling; called = Some called }) found)
  with_called_path calling is None = tt
  with_called_path calling is (Some called) = is

  with_called_is : (start : ℕ) (leg : Option Leg) (calling : Path) → calling.line ≡ parties.calling → IsFound (with_called paths start leg calling)
  with_called_is start None calling is = is
  with_called_is start (Some leg) calling is =
      with_called_path calling is (option_map (path_by leg.line leg.place) (channel_test (with_path paths calling) leg.line leg.place start))

  matched_is : (start : ℕ) (member : Member) (found : Option ℕ)
      → IsFound (option_and_then (with_called paths start (called_leg parties member)) (option_map (path_by parties.calling member.first) found))
  matched_is start member None = tt
  matched_is start member (Some channel) = with_called_is start (called_leg parties member) (path_by parties.calling member.first channel) refl

  tested_is : (found : CallPaths) (fault : Option Link) → found.calling.line ≡ parties.calling → IsEnd (faulty_or_chosen found fault)
  tested_is found None is = is
  tested_is found (Some link) is = tt

  end_is : (found : Option CallPaths) → IsFound found → IsEnd (end_of plan found)
  end_is None is = tt
  end_is (Some found) is = tested_is found _ is

  trial_is : (start : ℕ) (found : Option Member) → IsEnd (option_map_or (trial plan paths start parties) found NoChannel)
  trial_is start None = tt
  trial_is start (Some member) = end_is (matched paths start parties member) (matched_is start member (channel_test paths parties.calling member.first start))

  second_is : (cards : List Card) (index : ℕ) (end : TrialEnd) → IsEnd end → IsChoice (second_decides cards index end).choice
  second_is cards index (Chosen found) is = is
  second_is cards index (Faulty link) is = tt
  second_is cards index NoChannel is = tt

  first_is : (index : ℕ) (end : TrialEnd) (next : ℕ) (other : TrialEnd) → IsEnd end → IsEnd other → IsChoice (first_decides index end next other).choice
  first_is index (Chosen found) next other is later = is
  first_is index (Faulty link) next other is later = second_is _ next other later
  first_is index NoChannel next other is later = second_is _ next other later

  -- the calling path that trials choose begins at the calling line
  pub trials_is : (members : List Member) (first : ℕ) → IsChoice (two_trials plan paths parties members first).choice
  trials_is members first =
      let next = next_idle paths members first in
      first_is first (trial_at plan paths 0 parties members first) next (trial_at plan paths 5 parties members next) (trial_is 0 (slice_get members first))
      (trial_is 5 (slice_get members next))

  -- the calling path of this end is of the calling line
  abbrev pub JoinsCalling : End → Type 0
  JoinsCalling end = (calling : Path) (called : Option Path) (trial : ℕ) → end ≡ Connected calling called trial → calling.line ≡ parties.calling

  choice_joins : (choice : Option Choice) (cards : List Card) → IsChoice choice → JoinsCalling (trials_end aim.Connected choice cards)
  choice_joins None [] is calling called trial e = cc
  choice_joins None (card ∷ cards) is calling called trial e = cc
  choice_joins (Some choice) cards is calling called trial e =
      let same : choice.paths.calling ≡ calling = cc in
      ap (λ (p : Path). p.line) (sym same) ∙ is

  pub connect_joins : (groups : List ℕ) → JoinsCalling (connect plan paths parties groups).reply.end
  connect_joins groups = of (idle_trunk plan paths groups) where
    of : (found : Option IdleTrunk) → JoinsCalling (try_trunk plan paths parties found).reply.end
    of None calling called trial e = cc
    of (Some trunk) calling called trial e =
        let trials = two_trials plan paths parties (members_of plan trunk.group) trunk.first in
        choice_joins trials.choice trials.cards (trials_is (members_of plan trunk.group) trunk.first) calling called trial e

-- so the calling path of a completed call is of the line that dialled
module _ (plan : Tables) (line : Line) (calling : Path) (called : Option Path) (trial : ℕ) where
  line_joins : (paths : List Path) (groups : List ℕ) (found : Option Line) → (call_line plan paths line groups found).reply.end ≡ Connected calling called trial
      → calling.line ≡ line
  line_joins paths groups None e = cc
  line_joins paths groups (Some other) e = connect_joins plan paths (record { calling = line; called = Some other }) groups calling called trial e

  number_joins : (paths : List Path) (groups : List ℕ) (found : Option (List Line))
      → (call_number plan paths line groups found).reply.end ≡ Connected calling called trial → calling.line ≡ line
  number_joins paths groups None e = cc
  number_joins paths groups (Some lines) e = line_joins paths groups (called_line paths line lines) e

  route_joins : (paths : List Path) (dialled : ℕ) (groups : List ℕ) (b : Bool)
      → (if b then call_number plan paths line groups (lines_of plan (number_of dialled)) else connect plan paths (record { calling = line; called = None })
      groups).reply.end ≡ Connected calling called trial → calling.line ≡ line
  route_joins paths dialled groups true e = number_joins paths groups (lines_of plan (number_of dialled)) e
  route_joins paths dialled groups false e = connect_joins plan paths (record { calling = line; called = None }) groups calling called trial e

  call_joins : (paths : List Path) (dialled : ℕ) (found : Option (List ℕ)) → (call plan paths line dialled found).reply.end ≡ Connected calling called trial
      → calling.line ≡ line
  call_joins paths dialled None e = cc
  call_joins paths dialled (Some groups) e = route_joins paths dialled groups (leads_inside plan groups) e

  pub complete_joins : (paths : List Path) (dialled : ℕ) → (complete plan paths line dialled).reply.end ≡ Connected calling called trial → calling.line ≡ line
  complete_joins paths dialled = of (register_path plan paths line) where
    of : (found : Option Path) → (complete_from plan paths line dialled found).reply.end ≡ Connected calling called trial → calling.line ≡ line
    of None e = cc
    of (Some own) e = call_joins (without_path paths own) dialled (route_of plan (code_of dialled)) e
