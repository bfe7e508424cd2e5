-- two trials on words that show a set come to what the one-marker office's trials on the set come to
use Rattle.std.proofs.Common.{◌≡◌, ℕ, ◌<◌, ◌≤◌, Bool, true, false, List, [], length, inl, inr, refl, ◌∙◌, ap, arith, Option, Some, None, ◌==◌, not, option_map}
use Rattle.std.proofs.Common.{slice_get, if◌then◌else◌}
use Rattle.{std.{specs.Option.option_map_or, proofs.{Math.Bool.not-not, lemmas.Option.slice_get_cases}}, turns.specs.Script.{Ends, ◌>>=◌, run}}
use Rattle.{turns.proofs.Walks.run_bind, xbar_equip.specs.{Ten.TrunkPlace, Word.GroupWord, declared.path.Path.Path}}
use Rattle.xbar_plan.{specs.{Tables.{Tables, member_at}, Lawful.IsLawful, declared.group.Member.Member}, proofs.LawfulPlans.{member-numbers, place_at-range}}
use Rattle.{xbar_match.specs.Switches.word_of, xbar_office.specs.{Members.{members_of, is_idle_at, is_member_idle, next_idle}, Trial.{end_of, trial}}}
use Rattle.xbar_office.specs.{TwoTrials.{cards_of, first_decides, second_decides, trial_at, two_trials}, declared.{reply.Card.Card, trial.Parties.Parties}}
use Rattle.xbar_office.specs.declared.trial.{TrialEnd.{TrialEnd, TheVariants.{Chosen, Faulty, NoChannel}}, Trials.Trials}
use Rattle.{xbar_office.proofs.{GoodTrials.at_group, TakenMembers.second-has}, xbar_jobs.specs.{Office.{ShowsOffice, is_busy_at}, Sides.{Side, Sides, reach}}}
use Rattle.xbar_jobs.specs.{Sides.{test_called, test_place, test_second, test_side, test_sides}, Trials.{after_first_trial, first_trial_steps, next_clear}}
use Rattle.xbar_jobs.specs.{Trials.{second_trial_at, second_trial_steps, trial_end, two_trials_steps}, Trunks.{Trunks, is_bit_clear, trunks_of}}
use Rattle.xbar_jobs.{specs.declared.{party.{CallParties.CallParties, Party.Party}, trunks.{Reached.Reached, Trunk.Trunk}}, proofs.JoinedSides.joined}
use Rattle.xbar_jobs.proofs.{JoinedSides.{reached_of, side_of, sides_of, trunk_of}, SameChoice.next_below-same, TestedParties.{AreTestedOn, lines_of_parties}}

module _ (words : List ℕ) where
  -- what the tests of a side and of a place find
  side_runs : (party : Party) → run words (test_side party) ≡ side_of words party
  unfolding run test_side
  side_runs party = run_bind words _ _

  called_runs : (called : Option Party) → run words (test_called called) ≡ option_map (side_of words) called
  unfolding run test_called
  called_runs None = refl
  called_runs (Some party) = run_bind words (test_side party) _ ∙ ap (λ (side : Side). Some side) (side_runs party)

  sides_run : (parties : CallParties) → run words (test_sides parties) ≡ sides_of words parties
  unfolding run test_sides
  sides_run parties =
      run_bind words (test_side parties.calling) _
      ∙ run_bind words (test_called parties.called) _
      ∙ ap (λ (side : Side). record { calling = side; called = run words (test_called parties.called) }) (side_runs parties.calling)
      ∙ ap (λ (called : Option Side). record { calling = side_of words parties.calling; called = called }) (called_runs parties.called)

  second_runs : (second : Option TrunkPlace) → run words (test_second second) ≡ option_map (reached_of words) second
  unfolding run test_second test_place ◌>>=◌
  second_runs None = refl
  second_runs (Some place) = refl

  reach_runs : (member : Member) → run words (reach member) ≡ trunk_of words member
  unfolding run reach test_place ◌>>=◌
  reach_runs member =
      run_bind words (test_second member.second) _
      ∙ ap (λ (second : Option Reached). record { first = reached_of words member.first; second = second }) (second_runs member.second)

bit_of : (b : Bool) → ((if b then 1 else 0) == 0) ≡ not b
bit_of true = refl
bit_of false = refl

there_is : (members : List Member) (i : ℕ) → i < length members → slice_get members i ≡ None → ⊥
there_is members i below none =
    elim (slice_get_cases members i).1 [ inl found ↦ let here = found.2 in absurd cc | inr past ↦ absurd (omega (arith, below, past.0)) ]

module _ (plan : Tables) (words : List ℕ) (paths : List Path) (laws : IsLawful plan) (shows : ShowsOffice plan words paths) (group : ℕ) where
  abbrev pub members : List Member
  members = members_of plan group

  abbrev pub trunks : Trunks
  trunks = trunks_of plan group (word_of words (GroupWord group))

  listed : (i : ℕ) (member : Member) → slice_get members i ≡ Some member → member_at plan group i ≡ Some member
  listed i member here = at_group i member (slice_get plan.groups group) here

  -- the bits of a group's word show which of its members are idle
  pub bits_tell : (i : ℕ) → i < length members → is_bit_clear trunks.word i ≡ is_idle_at paths members i
  bits_tell i below = at (slice_get members i) refl where
    at : (o : Option Member) → slice_get members i ≡ o → is_bit_clear trunks.word i ≡ option_map_or (is_member_idle paths) o false
    at None here = absurd (there_is members i below here)
    at (Some member) here =
        let valid = listed i member here in
        let busy : is_busy_at plan paths group i ≡ not (is_member_idle paths member) =
        ap (λ (o : Option Member). option_map_or (λ m. not (is_member_idle paths m)) o false) valid in
        ap (λ (bit : ℕ). bit == 0) (shows.groups group (member-numbers plan laws group i member valid).0 i)
        ∙ bit_of (is_busy_at plan paths group i) ∙ ap not busy ∙ not-not (is_member_idle paths member)

  next_runs : (first : ℕ) → next_clear trunks first ≡ next_idle paths members first
  next_runs first = next_below-same (is_bit_clear trunks.word) (is_idle_at paths members) (length members) first bits_tell

  module _ (size : 453 ≤ length words) (parties : CallParties) (tested : AreTestedOn words parties) where
    abbrev lines : Parties
    lines = lines_of_parties parties

    abbrev sides : Sides
    sides = sides_of words parties

    -- a trial's end by the words is its end on the set
    end_runs : (start i : ℕ) (member : Member) → slice_get members i ≡ Some member
        → trial_end plan sides start (trunk_of words member) ≡ trial plan paths start lines member
    end_runs start i member here =
        let valid = listed i member here in
        ap (end_of plan)
        (joined plan words paths (omega (arith, size)) shows.switches shows.lawful.orderly.ranges parties tested member
        (place_at-range plan laws group i member member.first valid (inl refl))
        (λ second paired. place_at-range plan laws group i member second valid (second-has member second paired)) start)

    second_trial_runs : (cards : List Card) (next : ℕ)
        → run words (second_trial_at plan sides trunks cards next) ≡ second_decides cards next (trial_at plan paths 5 lines members next)
    unfolding run second_trial_at second_trial_steps
    second_trial_runs cards next = at (slice_get members next) refl where
      at : (o : Option Member) → slice_get members next ≡ o
          → run words (option_map_or (second_trial_steps plan sides cards next) o (Ends (second_decides cards next NoChannel)))
          ≡ second_decides cards next (option_map_or (trial plan paths 5 lines) o NoChannel)
      at None here = refl
      at (Some member) here =
          run_bind words (reach member) _
          ∙ ap (λ (trunk : Trunk). second_decides cards next (trial_end plan sides 5 trunk)) (reach_runs words member)
          ∙ ap (second_decides cards next) (end_runs 5 next member here)

    after_runs : (first : ℕ) (end : TrialEnd)
        → run words (after_first_trial plan sides trunks first end)
        ≡ first_decides first end (next_idle paths members first) (trial_at plan paths 5 lines members (next_idle paths members first))
    unfolding run after_first_trial
    after_runs first (Chosen call) = refl
    after_runs first (Faulty link) =
        ap (λ (next : ℕ). run words (second_trial_at plan sides trunks (cards_of 1 (Faulty link)) next)) (next_runs first)
        ∙ second_trial_runs (cards_of 1 (Faulty link)) (next_idle paths members first)
    after_runs first NoChannel =
        ap (λ (next : ℕ). run words (second_trial_at plan sides trunks [] next)) (next_runs first) ∙ second_trial_runs [] (next_idle paths members first)

    -- two trials on the words come to what they come to on the set
    pub two_trials_run : (first : ℕ) → first < length members
        → run words (two_trials_steps plan parties trunks first) ≡ two_trials plan paths lines members first
    unfolding run two_trials_steps first_trial_steps
    two_trials_run first below = at (slice_get members first) refl where
      decides : TrialEnd → Trials
      decides end = first_decides first end (next_idle paths members first) (trial_at plan paths 5 lines members (next_idle paths members first))

      at : (o : Option Member) → slice_get members first ≡ o
          → run words (option_map_or (first_trial_steps plan parties trunks first) o (Ends (second_decides [] first NoChannel)))
          ≡ decides (option_map_or (trial plan paths 0 lines) o NoChannel)
      at None here = absurd (there_is members first below here)
      at (Some member) here =
          run_bind words (reach member) _
          ∙ run_bind words (test_sides parties) _
          ∙ ap (λ (found : Sides). run words (after_first_trial plan found trunks first (trial_end plan found 0 (run words (reach member)))))
          (sides_run words parties)
          ∙ ap (λ (trunk : Trunk). run words (after_first_trial plan sides trunks first (trial_end plan sides 0 trunk))) (reach_runs words member)
          ∙ after_runs first (trial_end plan sides 0 (trunk_of words member))
          ∙ ap decides (end_runs 0 first member here)
