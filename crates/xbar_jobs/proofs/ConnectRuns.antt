-- parties are joined, on words that show a set, by the group and the trials by which the one-marker office joins their lines
use Rattle.std.proofs.Common.{◌≡◌, ℕ, ◌<◌, ◌≤◌, true, List, [], ◌∷◌, length, refl, ◌∙◌, ap, Option, Some, None, false, option_map, slice_get}
use Rattle.{std.{specs.Option.option_map_or, proofs.lemmas.Option.slice_get_within}, turns.{specs.Script.{◌>>=◌, run}, proofs.Walks.run_bind}}
use Rattle.{xbar_equip.specs.{Word.GroupWord, declared.path.Path.Path}, xbar_plan.specs.{Tables.Tables, Lawful.IsLawful, declared.group.Member.Member}}
use Rattle.{xbar_match.specs.Switches.word_of, xbar_office.specs.{Members.{members_of, first_idle, is_idle_at, is_member_idle}, Trunks.{idle_trunk, trunk_or}}}
use Rattle.xbar_office.{specs.{TwoTrials.two_trials, declared.{aim.Aim.Aim, route.IdleTrunk.IdleTrunk}}, proofs.CallJobs.idle_trunk-is}
use Rattle.xbar_jobs.specs.{Closing.{refused, tried}, Connecting.{busy_end, connect, try_trunk}, Office.ShowsOffice, Trials.two_trials_steps}
use Rattle.xbar_jobs.specs.{Trunks.{find_trunk, idle_or, is_bit_clear, trunks_of}, declared.{decision.Decision.Decision, party.CallParties.CallParties}}
use Rattle.xbar_jobs.specs.declared.trunks.IdleGroup.{IdleGroup}
use Rattle.xbar_jobs.proofs.{SameChoice.first_below-same, TestedParties.{AreTestedOn, lines_of_parties}, TrialRuns.{bits_tell, two_trials_run}}

-- the decision by the trunk that the one-marker office takes
abbrev pub decided_by : Tables → List Path → Aim → CallParties → Option IdleTrunk → Decision
decided_by plan paths aim parties None = refused (busy_end aim)
decided_by plan paths aim parties (Some trunk) =
    tried aim trunk.group (two_trials plan paths (lines_of_parties parties) (members_of plan trunk.group) trunk.first)

-- a member that is idle is there
idle_within : (paths : List Path) (members : List Member) (index : ℕ) → is_idle_at paths members index ≡ true → index < length members
idle_within paths members index idle = at (slice_get members index) refl idle where
  at : (o : Option Member) → slice_get members index ≡ o → option_map_or (is_member_idle paths) o false ≡ true → index < length members
  at None here idle = absurd cc
  at (Some member) here idle = slice_get_within members index member here

module _ (plan : Tables) (words : List ℕ) (paths : List Path) (laws : IsLawful plan) (size : 453 ≤ length words) (shows : ShowsOffice plan words paths) where
  -- a trunk, with what its group's word is
  abbrev seen : IdleTrunk → IdleGroup
  seen trunk = record { group = trunk.group; word = word_of words (GroupWord trunk.group); first = trunk.first }

  -- the first group with an idle member is found by the groups' words
  find_trunk_runs : (groups : List ℕ) → run words (find_trunk plan groups) ≡ option_map seen (idle_trunk plan paths groups)
  unfolding run find_trunk idle_or ◌>>=◌
  find_trunk_runs [] = refl
  find_trunk_runs (group ∷ groups) =
      let word = word_of words (GroupWord group) in
      let members = members_of plan group in
      ap (λ (first : Option ℕ). run words (idle_or group word (find_trunk plan groups) first))
      (first_below-same (is_bit_clear word) (is_idle_at paths members) (length members) (bits_tell plan words paths laws shows group))
      ∙ at (first_idle paths members) (find_trunk_runs groups) where
        at : (first : Option ℕ) → run words (find_trunk plan groups) ≡ option_map seen (idle_trunk plan paths groups)
            → run words (idle_or group (word_of words (GroupWord group)) (find_trunk plan groups) first)
            ≡ option_map seen (trunk_or group first (idle_trunk plan paths groups))
        at None later = later
        at (Some first) later = refl

  module _ (aim : Aim) (parties : CallParties) (tested : AreTestedOn words parties) (groups : List ℕ) where
    try_trunk_runs : (found : Option IdleTrunk) → idle_trunk plan paths groups ≡ found
        → run words (try_trunk plan aim parties (option_map seen found)) ≡ decided_by plan paths aim parties found
    unfolding run try_trunk
    try_trunk_runs None is = refl
    try_trunk_runs (Some trunk) is =
        let members = members_of plan trunk.group in
        let idle = idle_trunk-is plan paths groups trunk is in
        run_bind words (two_trials_steps plan parties (trunks_of plan trunk.group (word_of words (GroupWord trunk.group))) trunk.first) _
        ∙ ap (tried aim trunk.group) (two_trials_run plan words paths laws shows trunk.group size parties tested trunk.first
        (idle_within paths members trunk.first idle.idle))

    -- so the parties are joined as the one-marker office joins their lines
    pub connect_runs : run words (connect plan aim parties groups) ≡ decided_by plan paths aim parties (idle_trunk plan paths groups)
    unfolding connect
    connect_runs =
        run_bind words (find_trunk plan groups) _
        ∙ ap (λ (found : Option IdleGroup). run words (try_trunk plan aim parties found)) (find_trunk_runs groups)
        ∙ try_trunk_runs (idle_trunk plan paths groups) refl
