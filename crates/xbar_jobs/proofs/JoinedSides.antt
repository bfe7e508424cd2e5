-- sides of a call that were tested on words that show a set are joined as the channel test in the set joins their lines
use Rattle.std.proofs.Common.{◌≡◌, ℕ, ◌+◌, ◌<◌, ◌≤◌, true, List, length, inl, inr, refl, sym, ◌∙◌, ap, subst, arith, Option, Some, None, slice_index}
use Rattle.std.proofs.Common.{option_map, option_and_then}
use Rattle.turns.{specs.{Among.IsIn, Script.run, System.perform_all}, proofs.Completed.perform_index}
use Rattle.xbar_equip.specs.{Path.{IsPath, path_by}, Paths.{channel_test, has_idle_links, with_path, IsFirstIdleChannel}, Ten.{TrunkPlace, IsTrunkPlace}}
use Rattle.xbar_equip.{specs.{Word.{word_number, LineSwitch, LineJunctor, TrunkSwitch}, declared.path.Path.Path}, proofs.PathSets.with-in}
use Rattle.{xbar_plan.specs.{Tables.Tables, declared.group.Member.Member}, xbar_match.specs.Channels.{match_words, first_open_channel}}
use Rattle.xbar_match.{specs.{Shows.{AreInRange, ShowsPaths}, Switches.word_of}, proofs.OpenChannels.{first_open_channel-shown, shows_links-shown}}
use Rattle.{xbar_match.proofs.PathEffects.{close_path-shows, with_path-adds}, xbar_office.specs.Trial.{called_leg, leg_path, matched, with_called}}
use Rattle.{xbar_office.proofs.GoodTrials.channel_found, xbar_jobs.specs.{Closing.{effect_word, value_after, path_closes}, Office.office}}
use Rattle.xbar_jobs.specs.{Sides.{Side, Sides, join, join_called, open_path, reached_after, side_after, test_junctors}, declared.effect.Effect.Effect}
use Rattle.xbar_jobs.specs.declared.{party.{CallParties.CallParties, Party.Party}, trunks.{Reached.Reached, Trunk.Trunk}}
use Rattle.xbar_jobs.proofs.{TakenMembers.perform_all-path_closes, TestedJunctors.{junctors_after-index, junctors_run, length-junctors, length-junctors_after}}
use Rattle.xbar_jobs.proofs.TestedParties.{AreTestedOn, TestedOn, closes_below, party_after-tested, lines_of_parties}

-- a side of a call that was tested on these words
record IsSideOn (words : List ℕ) (side : Side) : Type 0 where
  party : TestedOn words side.party
  count : length side.junctors ≡ 10
  junctors : (n : ℕ) → n < 10 → slice_index side.junctors n ≡ word_of words (LineJunctor side.party.line.frame n)

-- a trunk place that was reached on these words
record IsReachedOn (words : List ℕ) (reached : Reached) : Type 0 where
  place : IsTrunkPlace reached.place
  word : reached.word ≡ word_of words (TrunkSwitch reached.place.frame reached.place.switch)

-- the open channel of the words is the idle channel of the set
open_path-shown : (words : List ℕ) (paths : List Path) (side : Side) (start : ℕ) (reached : Reached) → ShowsPaths words paths → AreInRange paths
    → IsSideOn words side → IsReachedOn words reached
    → open_path side start reached ≡ leg_path paths start (record { line = side.party.line; place = reached.place })
open_path-shown words paths side start reached shows ranges on at =
    let path = path_by side.party.line reached.place in
    let links = shows_links-shown words side.junctors paths side.party.line reached.place shows ranges on.party.line at.place on.junctors in
    ap (λ (word : ℕ). option_map path (first_open_channel (match_words word side.junctors reached.word) reached.place.frame start)) on.party.word
    ∙ ap (λ (word : ℕ). option_map path (first_open_channel
    (match_words (word_of words (LineSwitch side.party.line.frame side.party.line.switch)) side.junctors word) reached.place.frame start)) at.word
    ∙ ap (option_map path) (sym (first_open_channel-shown _ paths side.party.line reached.place start links))

module _ (plan : Tables) (words : List ℕ) (effects : List Effect) (below : (effect : Effect) → IsIn effect effects → effect_word effect < length words) where
  abbrev after : List ℕ
  after = perform_all (office plan) words effects

  -- what was tested on some words is, as effects will leave it, what a test finds after them
  side_after-on : (side : Side) → IsSideOn words side → IsSideOn after (side_after effects side)
  side_after-on side on = record {
    party = party_after-tested plan words effects below side.party on.party;
    count = length-junctors_after effects side.party.line.frame 0 side.junctors ∙ on.count;
    junctors = λ n range.
        let frame = side.party.line.frame in
        let same : 0 + n ≡ n = omega arith in
        junctors_after-index effects frame 0 side.junctors n (omega (arith, range, on.count))
        ∙ ap (λ (at : ℕ). value_after effects (word_number (LineJunctor frame at)) (slice_index side.junctors n)) same
        ∙ ap (value_after effects (word_number (LineJunctor frame n))) (on.junctors n range)
        ∙ sym (perform_index (office plan) words effects (word_number (LineJunctor frame n)) below);
  }

  reached_after-on : (reached : Reached) → IsReachedOn words reached → IsReachedOn after (reached_after effects reached)
  reached_after-on reached at = record {
    place = at.place;
    word =
        let number = word_number (TrunkSwitch reached.place.frame reached.place.switch) in
        ap (value_after effects number) at.word ∙ sym (perform_index (office plan) words effects number below);
  }

-- a side of a call as the tests on these words find it
abbrev pub side_of : List ℕ → Party → Side
side_of words party = record { party = party; junctors = run words (test_junctors party.line.frame 0 10) }

-- both sides
abbrev pub sides_of : List ℕ → CallParties → Sides
sides_of words parties = record { calling = side_of words parties.calling; called = option_map (side_of words) parties.called }

-- a trunk place
abbrev pub reached_of : List ℕ → TrunkPlace → Reached
reached_of words place = record { place = place; word = word_of words (TrunkSwitch place.frame place.switch) }

-- and a member
abbrev pub trunk_of : List ℕ → Member → Trunk
trunk_of words member = record { first = reached_of words member.first; second = option_map (reached_of words) member.second }

side_of-on : (words : List ℕ) (party : Party) → TestedOn words party → IsSideOn words (side_of words party)
side_of-on words party tested = record {
  party = tested;
  count = length-junctors words party.line.frame 0 10;
  junctors = λ n range.
      let same : 0 + n ≡ n = omega arith in
      junctors_run words party.line.frame 0 10 n range ∙ ap (λ (at : ℕ). word_of words (LineJunctor party.line.frame at)) same;
}

reached_of-on : (words : List ℕ) (place : TrunkPlace) → IsTrunkPlace place → IsReachedOn words (reached_of words place)
reached_of-on words place range = record { place = range; word = refl }

module _ (plan : Tables) (words : List ℕ) (paths : List Path) (long : 400 ≤ length words) (shows : ShowsPaths words paths) (ranges : AreInRange paths) where
  -- a path that is closed joins the set
  closed-shows : (path : Path) → IsPath path → has_idle_links paths path ≡ true
      → ShowsPaths (perform_all (office plan) words (path_closes path)) (with_path paths path)
  closed-shows path range links =
      subst (λ (after : List ℕ). ShowsPaths after (with_path paths path)) (sym (perform_all-path_closes plan words path))
      (close_path-shows words paths (with_path paths path) path long shows ranges range links (with_path-adds paths path))

  with-ranges : (path : Path) → IsPath path → AreInRange (with_path paths path)
  with-ranges path range q within = elim (with-in paths path q within) [ inl same ↦ subst IsPath (sym same) range | inr there ↦ ranges q there ]

  module _ (parties : CallParties) (tested : AreTestedOn words parties) (member : Member) (first : IsTrunkPlace member.first)
      (second : (place : TrunkPlace) → member.second ≡ Some place → IsTrunkPlace place) (start : ℕ) where
    -- the called side is joined beside the calling path
    called-joined : (calling : Path) → IsPath calling → has_idle_links paths calling ≡ true
        → join_called (option_map (side_of words) parties.called) start (option_map (reached_of words) member.second) calling
        ≡ with_called paths start (called_leg (lines_of_parties parties) member) calling
    called-joined calling range links = of parties.called refl member.second refl where
      of : (o : Option Party) → parties.called ≡ o → (s : Option TrunkPlace) → member.second ≡ s
          → join_called (option_map (side_of words) o) start (option_map (reached_of words) s) calling
          ≡ with_called paths start (option_and_then (λ line. option_map (λ place. record { line = line; place = place }) s)
          (option_map (λ party. party.line) o)) calling
      of None is None paired = refl
      of None is (Some place) paired = refl
      of (Some party) is None paired = refl
      of (Some party) is (Some place) paired =
          let closes = path_closes calling in
          let below : (effect : Effect) → IsIn effect closes → effect_word effect < length words =
          λ effect within. omega (arith, closes_below calling range effect within, long) in
          ap (option_map (λ called. record { calling = calling; called = Some called }))
          (open_path-shown (perform_all (office plan) words closes) (with_path paths calling) (side_after closes (side_of words party)) start
          (reached_after closes (reached_of words place)) (closed-shows calling range links) (with-ranges calling range)
          (side_after-on plan words closes below (side_of words party) (side_of-on words party (tested.called party is)))
          (reached_after-on plan words closes below (reached_of words place) (reached_of-on words place (second place paired))))

    abbrev Joined : Option ℕ → Type 0
    Joined found =
        option_and_then (join_called (option_map (side_of words) parties.called) start (option_map (reached_of words) member.second))
        (option_map (path_by parties.calling.line member.first) found)
        ≡ option_and_then (with_called paths start (called_leg (lines_of_parties parties) member))
        (option_map (path_by parties.calling.line member.first) found)

    calling-joined : (found : Option ℕ) → IsFirstIdleChannel paths parties.calling.line member.first start found → Joined found
    calling-joined None none = refl
    calling-joined (Some channel) is =
        let path = path_by parties.calling.line member.first channel in
        let links : has_idle_links paths path ≡ true = ap (λ (n : ℕ). has_idle_links paths (path_by parties.calling.line member.first n)) is.2 ∙ is.3 in
        called-joined path (record { line = tested.calling.line; channel = omega (arith, is.2); place = first }) links

    -- what was tested is joined to a member as the parties' lines are in the set
    pub joined : join (sides_of words parties) start (trunk_of words member) ≡ matched paths start (lines_of_parties parties) member
    joined =
        ap (option_and_then (join_called (option_map (side_of words) parties.called) start (option_map (reached_of words) member.second)))
        (open_path-shown words paths (side_of words parties.calling) start (reached_of words member.first) shows ranges
        (side_of-on words parties.calling tested.calling) (reached_of-on words member.first first))
        ∙ calling-joined (channel_test paths parties.calling.line member.first start) (channel_found paths parties.calling.line member.first start)
