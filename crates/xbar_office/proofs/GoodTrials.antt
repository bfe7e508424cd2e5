-- what trials on a group choose can be added to the set
use Rattle.std.proofs.Common.{◌≡◌, ◌≢◌, ℕ, ◌+◌, ◌-◌, Bool, true, false, List, [], length, inl, refl, sym, ◌∙◌, ap, subst, arith, Option, Some, None, is_some}
use Rattle.std.proofs.Common.{slice_get, unwrap_or, option_map, option_and_then, option_to_list, true≢false}
use Rattle.std.specs.{Option.option_map_or, List.list_all}
use Rattle.xbar_equip.specs.{First.{first_below, IsFirstBelow}, Len.{Line, IsLine}, Ten.{TrunkPlace, IsTrunkPlace}, Link.Link, Path.path_by, Paths.has_line}
use Rattle.xbar_equip.specs.{Paths.{has_place, is_idle, has_idle_links, channel_in_turn, channel_test, IsFirstIdleChannel, with_path}, declared.path.Path.Path}
use Rattle.xbar_equip.proofs.{FirstNumber.{first_below-law, in_turn-law}, Lists.each_passes, Logic.both, PathTests.{line_eq-exact, place_eq-exact}}
use Rattle.xbar_plan.specs.{Group.{TrunkGroup, places}, Tables.{Tables, member_at}, Lawful.IsLawful, declared.group.Member.Member}
use Rattle.{xbar_plan.proofs.LawfulPlans.{has-stands_at, place_at-range, pair-apart}, xbar_office.specs.{LawfulSet.IsMembersPlace, Members.members_of}}
use Rattle.xbar_office.specs.{Members.{is_member_idle, is_idle_at, next_idle}, Trial.{faulty_or_chosen, end_of, with_called, matched, called_leg, trial}}
use Rattle.xbar_office.specs.{TwoTrials.{second_decides, first_decides, trial_at, two_trials}, declared.{reply.Card.Card, trial.CallPaths.CallPaths}}
use Rattle.xbar_office.specs.declared.trial.{Parties.Parties, TrialEnd.{TrialEnd, TheVariants.{Chosen, Faulty, NoChannel}}, Choice.Choice}
use Rattle.xbar_office.proofs.{AddedPaths.idle-with_other, StandingPaths.CanStand, TakenMembers.{CanTake, CalledCanStand, second-has}}

-- a member of a group is a member of the plan
pub at_group : (i : ℕ) (member : Member) (o : Option TrunkGroup) → slice_get (option_map_or (λ found. found.members) o []) i ≡ Some member
    → option_and_then (λ found. slice_get found.members i) o ≡ Some member
at_group i member None e = e
at_group i member (Some group) e = e

-- the next idle member is idle, if the first one is
next_is_idle : (paths : List Path) (members : List Member) (first : ℕ) → is_idle_at paths members first ≡ true
    → is_idle_at paths members (next_idle paths members first) ≡ true
next_is_idle paths members first idle = of (first_below after bound) (first_below-law after bound) where
  after : ℕ → Bool
  after k = is_idle_at paths members (first + 1 + k)

  bound : ℕ
  bound = length members - (first + 1)

  of : (found : Option ℕ) → IsFirstBelow (λ k. is_idle_at paths members (first + 1 + k)) (length members - (first + 1)) found
      → is_idle_at paths members (unwrap_or (option_map (λ k. first + 1 + k) found) first) ≡ true
  of None none = idle
  of (Some k) is = is.1

false_unless : (b : Bool) → (b ≡ true → ⊥) → b ≡ false
false_unless false never = refl
false_unless true never = absurd (never refl)

-- a line that can be joined to a place: both exist and are idle
record CanJoin (plan : Tables) (paths : List Path) (line : Line) (place : TrunkPlace) : Type 0 where
  is_line : IsLine line
  line_idle : is_idle (has_line line) paths ≡ true
  is_place : IsTrunkPlace place
  place_idle : is_idle (has_place place) paths ≡ true
  own : IsMembersPlace plan place

-- the channel test joins them, if it finds a channel
joined : (plan : Tables) (paths : List Path) (line : Line) (place : TrunkPlace) (start k channel : ℕ) → CanJoin plan paths line place
    → channel ≡ channel_in_turn start k → has_idle_links paths (path_by line place (channel_in_turn start k)) ≡ true
    → CanStand plan paths (path_by line place channel)
joined plan paths line place start k channel can turn links = record {
  range = record { line = can.is_line; channel = omega (arith, turn); place = can.is_place };
  line = can.line_idle;
  place = can.place_idle;
  links = ap (λ (n : ℕ). has_idle_links paths (path_by line place n)) turn ∙ links;
  own = can.own;
}

-- the channel test finds the first idle channel
pub channel_found : (paths : List Path) (line : Line) (place : TrunkPlace) (start : ℕ)
    → IsFirstIdleChannel paths line place start (channel_test paths line place start)
channel_found paths line place start =
    let test = λ (k : ℕ). has_idle_links paths (path_by line place (channel_in_turn start k)) in
    in_turn-law test (channel_in_turn start) (first_below test 10) (first_below-law test 10)

-- parties that fit a group: lines in range that are idle; there is a called line, other than the
-- calling line, exactly if the group's members are pairs
pub record AreParties (plan : Tables) (paths : List Path) (group : ℕ) (parties : Parties) : Type 0 where
  pub calling : IsLine parties.calling
  pub calling_idle : is_idle (has_line parties.calling) paths ≡ true
  pub called : (line : Line) → parties.called ≡ Some line → IsLine line
  pub called_idle : (line : Line) → parties.called ≡ Some line → is_idle (has_line line) paths ≡ true
  pub apart : (line : Line) → parties.called ≡ Some line → parties.calling ≢ line
  pub paired : (i : ℕ) (member : Member) → member_at plan group i ≡ Some member → is_some member.second ≡ is_some parties.called

-- the choice of trials on a group, if there is one, can be added to the set
abbrev pub GoodChoice : Tables → List Path → ℕ → Option Choice → Type 0
GoodChoice plan paths group None = Unit {0}
GoodChoice plan paths group (Some choice) = CanTake plan paths group choice.index choice.paths

module _ (plan : Tables) (paths : List Path) (group : ℕ) (parties : Parties) (laws : IsLawful plan) (are : AreParties plan paths group parties) where
  abbrev GoodFound : ℕ → Option CallPaths → Type 0
  GoodFound i None = Unit {0}
  GoodFound i (Some call) = CanTake plan paths group i call

  abbrev GoodEnd : ℕ → TrialEnd → Type 0
  GoodEnd i (Chosen call) = CanTake plan paths group i call
  GoodEnd i (Faulty link) = Unit {0}
  GoodEnd i NoChannel = Unit {0}

  good_tested : (i : ℕ) (call : CallPaths) (fault : Option Link) → CanTake plan paths group i call → GoodEnd i (faulty_or_chosen call fault)
  good_tested i call None can = can
  good_tested i call (Some link) can = tt

  good_end : (i : ℕ) (found : Option CallPaths) → GoodFound i found → GoodEnd i (end_of plan found)
  good_end i None good = tt
  good_end i (Some call) good = good_tested i call _ good

  -- a place of an idle member can be joined to the line
  module _ (i start : ℕ) (member : Member) (listed : member_at plan group i ≡ Some member) (idle : is_member_idle paths member ≡ true) where
    first_idle_place : is_idle (has_place member.first) paths ≡ true
    first_idle_place =
        (both (is_idle (has_place member.first) paths) (list_all (λ place. is_idle (has_place place) paths) (option_to_list member.second)) idle).0

    calling_joins : CanJoin plan paths parties.calling member.first
    calling_joins = record {
      is_line = are.calling;
      line_idle = are.calling_idle;
      is_place = place_at-range plan laws group i member member.first listed (inl refl);
      place_idle = first_idle_place;
      own = record { group = group; index = i; member = member; listed = listed; stands = has-stands_at member member.first (inl refl) };
    }

    -- the called line can be joined to the second place beside the calling path
    module _ (calling : Path) (stands : CanStand plan paths calling) (line_is : calling.line ≡ parties.calling) (first_is : calling.place ≡ member.first) where
      called_joins : (line : Line) → parties.called ≡ Some line → (second : TrunkPlace) → member.second ≡ Some second
          → CanJoin plan (with_path paths calling) line second
      called_joins line called second paired =
          let within = second-has member second paired in
          let other_line : has_line line calling ≡ false =
          false_unless (has_line line calling) (λ same. are.apart line called (sym line_is ∙ (line_eq-exact calling.line line).0 same)) in
          let other_place : has_place second calling ≡ false =
          false_unless (has_place second calling) (λ same. pair-apart plan laws group i member second listed paired
          (sym ((place_eq-exact calling.place second).0 same) ∙ first_is)) in
          record {
            is_line = are.called line called;
            line_idle = idle-with_other (has_line line) paths calling other_line ∙ are.called_idle line called;
            is_place = place_at-range plan laws group i member second listed within;
            place_idle =
                idle-with_other (has_place second) paths calling other_place
                ∙ each_passes (λ place. is_idle (has_place place) paths) (places member) second idle within;
            own = record { group = group; index = i; member = member; listed = listed; stands = has-stands_at member second within };
          }

      takes : (called : Option Path) → CalledCanStand plan (with_path paths calling) member.second called
          → CanTake plan paths group i (record { calling = calling; called = called })
      takes called can = record { member = member; listed = listed; idle = idle; first = first_is; calling = stands; called = can }

      good_called_path : (line : Line) → parties.called ≡ Some line → (second : TrunkPlace) → member.second ≡ Some second → (found : Option ℕ)
          → IsFirstIdleChannel (with_path paths calling) line second start found
          → GoodFound i (option_map (λ called. record { calling = calling; called = Some called }) (option_map (path_by line second) found))
      good_called_path line called second paired None none = tt
      good_called_path line called second paired (Some channel) is =
          takes (Some (path_by line second channel))
          (subst (λ (o : Option TrunkPlace). CalledCanStand plan (with_path paths calling) o (Some (path_by line second channel))) (sym paired)
          (refl, joined plan (with_path paths calling) line second start is.0 channel (called_joins line called second paired) is.2 is.3))

      good_called : (o : Option Line) → parties.called ≡ o → (s : Option TrunkPlace) → member.second ≡ s
          → GoodFound i (with_called paths start (option_and_then (λ line. option_map (λ place. record { line = line; place = place }) s) o) calling)
      good_called None called None paired = takes None (subst (λ (x : Option TrunkPlace). CalledCanStand plan (with_path paths calling) x None) (sym paired) tt)
      good_called None called (Some second) paired =
          absurd (true≢false (sym (ap (λ (x : Option TrunkPlace). is_some x) paired) ∙ are.paired i member listed ∙ ap (λ (x : Option Line). is_some x) called))
      good_called (Some line) called None paired =
          absurd (true≢false (sym (ap (λ (x : Option Line). is_some x) called) ∙ sym (are.paired i member listed)
          ∙ ap (λ (x : Option TrunkPlace). is_some x) paired))
      good_called (Some line) called (Some second) paired =
          good_called_path line called second paired (channel_test (with_path paths calling) line second start)
          (channel_found (with_path paths calling) line second start)

    good_matched : (found : Option ℕ) → IsFirstIdleChannel paths parties.calling member.first start found
        → GoodFound i (option_and_then (with_called paths start (called_leg parties member)) (option_map (path_by parties.calling member.first) found))
    good_matched None none = tt
    good_matched (Some channel) is =
        good_called (path_by parties.calling member.first channel) (joined plan paths parties.calling member.first start is.0 channel calling_joins is.2 is.3)
        refl refl
        parties.called refl member.second refl

    good_trial : GoodEnd i (trial plan paths start parties member)
    good_trial =
        good_end i (matched paths start parties member) (good_matched (channel_test paths parties.calling member.first start)
        (channel_found paths parties.calling member.first start))

  abbrev pub members : List Member
  members = members_of plan group

  good_at : (i start : ℕ) (o : Option Member) → slice_get members i ≡ o → option_map_or (is_member_idle paths) o false ≡ true
      → GoodEnd i (option_map_or (trial plan paths start parties) o NoChannel)
  good_at i start None here idle = tt
  good_at i start (Some member) here idle = good_trial i start member (at_group i member (slice_get plan.groups group) here) idle

  good_second : (cards : List Card) (index : ℕ) (end : TrialEnd) → GoodEnd index end → GoodChoice plan paths group (second_decides cards index end).choice
  good_second cards index (Chosen call) good = good
  good_second cards index (Faulty link) good = tt
  good_second cards index NoChannel good = tt

  good_first : (index : ℕ) (end : TrialEnd) (next : ℕ) (other : TrialEnd) → GoodEnd index end → GoodEnd next other
      → GoodChoice plan paths group (first_decides index end next other).choice
  good_first index (Chosen call) next other good good_next = good
  good_first index (Faulty link) next other good good_next = good_second _ next other good_next
  good_first index NoChannel next other good good_next = good_second _ next other good_next

  -- from an idle member on
  pub good_trials : (first : ℕ) → is_idle_at paths members first ≡ true → GoodChoice plan paths group (two_trials plan paths parties members first).choice
  good_trials first idle =
      let next = next_idle paths members first in
      good_first first (trial_at plan paths 0 parties members first) next (trial_at plan paths 5 parties members next)
      (good_at first 0 (slice_get members first) refl idle)
      (good_at next 5 (slice_get members next) refl (next_is_idle paths members first idle))
