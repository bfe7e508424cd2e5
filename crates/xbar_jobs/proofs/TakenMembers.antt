-- what the effects of a member that was taken make of words that show a set of paths
use Rattle.std.proofs.Common.{◌≡◌, ◌≢◌, ℕ, ◌+◌, ◌^◌, ◌<◌, ◌≤◌, List, [], ◌∷◌, ◌++◌, length, get_or, inl, inr, refl, sym, ◌∙◌, ap, subst, arith, get_or-set_same}
use Rattle.std.proofs.Common.{get_or-set_other, length-set, Option, Some, None, bit_or, slice_index, slice_set, if◌then◌else◌, map, fold}
use Rattle.std.{specs.Int.bit_at, proofs.lemmas.{Bool.cases_eq, Nat.Bits.{bit_at_or, bit_at-pow_same, bit_at-pow_other, bit_at-lt}, List.Sums.fold-append}}
use Rattle.{turns.specs.System.{AreDue, perform, perform_all}, xbar_equip.specs.{Among.IsIn, Crosspoint.crosspoints, Path.IsPath, Paths.with_path}}
use Rattle.xbar_equip.specs.{Ten.TrunkPlace, Word.GroupWord, declared.{crosspoint.Crosspoint.Crosspoint, path.Path.Path}}
use Rattle.xbar_plan.{specs.{Tables.Tables, Lawful.IsLawful}, proofs.LawfulPlans.member-numbers}
use Rattle.xbar_match.specs.{Effects.{close_at, close_path, EachCloses}, Shows.{WordShows, IsClosedIn, ShowsPaths}, Switches.word_of}
use Rattle.xbar_match.proofs.PathEffects.{crosspoint, four_closed, close_path-shows, with_path-adds}
use Rattle.xbar_office.specs.{Chosen.with_chosen, Done.with_call_paths, LawfulSet.{IsLawfulSet, IsOrderlySet}, declared.trial.CallPaths.CallPaths}
use Rattle.xbar_office.proofs.{StandingPaths.{CanStand, orderly-with}, TakenMembers.{CalledCanStand, CanTake, lawful-take}}
use Rattle.xbar_jobs.specs.{Closing.{path_closes, called_closes, take_effects, IsDue}, Office.{is_busy_at, GroupShows, ShowsOffice, office}}
use Rattle.xbar_jobs.{specs.declared.effect.Effect.{Effect, TheVariants.{Close, SetBit}}, proofs.BusyMembers.{idle_before, busy_after, others_after}}

close_all-elsewhere : (words : List ℕ) (cs : List Crosspoint) (n : ℕ) → ((c : Crosspoint) → IsIn c cs → n ≢ c.word)
    → get_or (fold close_at words cs) n 0 ≡ get_or words n 0
close_all-elsewhere words [] n other = refl
close_all-elsewhere words (c ∷ cs) n other =
    close_all-elsewhere (close_at words c) cs n (λ d within. other d (inr within))
    ∙ get_or-set_other words c.word n _ 0 (other c (inl refl))

-- closing a path leaves the words after the switches as they are
pub close_path-behind : (words : List ℕ) (path : Path) (n : ℕ) → IsPath path → 400 ≤ n → get_or (close_path words path) n 0 ≡ get_or words n 0
unfolding close_path
close_path-behind words path n range behind =
    close_all-elsewhere words (crosspoints path) n (λ c within same. let is = crosspoint path c range within in let below = is.word in omega arith)

length-close_all : (words : List ℕ) (cs : List Crosspoint) → length (fold close_at words cs) ≡ length words
length-close_all words [] = refl
length-close_all words (c ∷ cs) = length-close_all (close_at words c) cs ∙ length-set words c.word _

-- nor does it change how many there are
pub length-close_path : (words : List ℕ) (path : Path) → length (close_path words path) ≡ length words
unfolding close_path
length-close_path words path = length-close_all words (crosspoints path)

-- a bit that was set is 1
pub bit-set : (word k : ℕ) → bit_at (bit_or word (2 ^ k)) k ≡ 1
bit-set word k =
    let both = bit_at_or word (2 ^ k) k in
    let one = bit_at-pow_same k in
    let small = bit_at-lt word k in
    omega arith

-- and the others are as they were
pub bit-kept : (word k i : ℕ) → i ≢ k → bit_at (bit_or word (2 ^ k)) i ≡ bit_at word i
bit-kept word k i other =
    let both = bit_at_or word (2 ^ k) i in
    let none = bit_at-pow_other k i other in
    omega arith

module _ (plan : Tables) where
  -- effects and then others
  pub perform_all-append : (words : List ℕ) (first others : List Effect)
      → perform_all (office plan) words (first ++ others) ≡ perform_all (office plan) (perform_all (office plan) words first) others
  unfolding perform_all
  perform_all-append words first others = fold-append (perform (office plan)) words first others

  -- effects that are due, and then others that are due after them
  pub due-append : (words : List ℕ) (first others : List Effect) → AreDue (office plan) words first
      → AreDue (office plan) (perform_all (office plan) words first) others → AreDue (office plan) words (first ++ others)
  unfolding perform_all
  due-append words [] others due later = later
  due-append words (effect ∷ first) others due later = (due.0, due-append (perform (office plan) words effect) first others due.1 later)

  -- the effects that close a path's crosspoints close the path
  pub perform_all-path_closes : (words : List ℕ) (path : Path) → perform_all (office plan) words (path_closes path) ≡ close_path words path
  unfolding perform_all close_path
  perform_all-path_closes words path = refl

  -- and each of them is due, if each closes an open field
  pub closes-due : (words : List ℕ) (cs : List Crosspoint) → EachCloses words cs → AreDue (office plan) words (map Close cs)
  closes-due words [] each = tt
  closes-due words (c ∷ cs) each = (each.0, closes-due (close_at words c) cs each.1)

  -- effects after which the switches show a set of more paths, and all words after the switches
  -- are as they were
  pub record Adds (words : List ℕ) (effects : List Effect) (more : List Path) : Type 0 where
    pub switches : ShowsPaths (perform_all (office plan) words effects) more
    pub behind : (n : ℕ) → 400 ≤ n → get_or (perform_all (office plan) words effects) n 0 ≡ get_or words n 0
    pub size : length (perform_all (office plan) words effects) ≡ length words
    pub due : AreDue (office plan) words effects

  pub nothing_added : (words : List ℕ) (paths : List Path) → ShowsPaths words paths → Adds words [] paths
  unfolding perform_all
  nothing_added words paths shows = record { switches = shows; behind = λ n above. refl; size = refl; due = tt }

  -- a path that may join the set is added by closing it
  one_added : (words : List ℕ) (paths : List Path) (path : Path) → 400 ≤ length words → ShowsPaths words paths → IsOrderlySet plan paths
      → CanStand plan paths path → Adds words (path_closes path) (with_path paths path)
  one_added words paths path long shows orderly can =
      let closed = sym (perform_all-path_closes words path) in
      record {
        switches =
            subst (λ (after : List ℕ). ShowsPaths after (with_path paths path)) closed
            (close_path-shows words paths (with_path paths path) path long shows orderly.ranges can.range can.links (with_path-adds paths path));
        behind = λ n above. ap (λ (after : List ℕ). get_or after n 0) (perform_all-path_closes words path) ∙ close_path-behind words path n can.range above;
        size = ap (length {A = ℕ}) (perform_all-path_closes words path) ∙ length-close_path words path;
        due = closes-due words (crosspoints path) (four_closed words paths path long shows orderly.ranges can.range can.links).steps;
      }

  -- and then others
  pub more_added : (words : List ℕ) (first others : List Effect) (paths more : List Path) → Adds words first paths
      → Adds (perform_all (office plan) words first) others more → Adds words (first ++ others) more
  more_added words first others paths more before after =
      let both = sym (perform_all-append words first others) in
      record {
        switches = subst (λ (all : List ℕ). ShowsPaths all more) both after.switches;
        behind = λ n above. ap (λ (all : List ℕ). get_or all n 0) (perform_all-append words first others) ∙ after.behind n above ∙ before.behind n above;
        size = ap (length {A = ℕ}) (perform_all-append words first others) ∙ after.size ∙ before.size;
        due = due-append words first others before.due after.due;
      }

  -- these effects leave the groups' words as they were
  module _ (words : List ℕ) (paths more : List Path) (effects : List Effect) (long : 453 ≤ length words) (shows : ShowsOffice plan words paths)
      (added : Adds words effects more) where
    abbrev between : List ℕ
    between = perform_all (office plan) words effects

    pub group_kept : (number : ℕ) → number < 16 → GroupShows plan paths number (word_of between (GroupWord number))
    group_kept number below at = ap (λ word. bit_at word at) (added.behind (400 + number) (omega arith)) ∙ shows.groups number below at

    -- so once the word of a member's group shows its bit too, the words show the set that the effects lead to
    module _ (group index word : ℕ) (in_range : group < 16) (lawful : IsLawfulSet plan more)
        (apart : (number at : ℕ) → (number ≡ group → at ≡ index → ⊥) → is_busy_at plan more number at ≡ is_busy_at plan paths number at)
        (own : GroupShows plan more group word) where
      abbrev after : List ℕ
      after = slice_set between (400 + group) word

      group_shows : (number : ℕ) → number < 16 → GroupShows plan more number (word_of after (GroupWord number))
      group_shows number below = elim (cases_eq number group) [
        | inl same ↦
            subst (λ (n : ℕ). GroupShows plan more n (word_of after (GroupWord n))) (sym same)
            (
            subst (λ (found : ℕ). GroupShows plan more group found)
            (sym (get_or-set_same between (400 + group) word 0 (omega (arith, added.size, in_range))))
            own
            )
        | inr other ↦
            subst (λ (found : ℕ). GroupShows plan more number found)
            (sym (get_or-set_other between (400 + group) (400 + number) word 0 (λ same. other (omega arith))))
            (λ at. group_kept number below at ∙ ap (λ b. if b then 1 else 0) (sym (apart number at (λ same same'. other same))))
      ]

      switch_shows : (n : ℕ) → n < 400 → WordShows (IsClosedIn more) n (slice_index after n)
      switch_shows n below =
          subst (λ (found : ℕ). WordShows (IsClosedIn more) n found)
          (sym (get_or-set_other between (400 + group) n word 0 (λ same. omega arith)))
          (added.switches.switch n below)

      pub member_shows : ShowsOffice plan after more
      member_shows = record { lawful = lawful; switches = record { switch = switch_shows }; groups = group_shows }

  called_added : (words : List ℕ) (paths : List Path) (second : Option TrunkPlace) (called : Option Path) → 400 ≤ length words → ShowsPaths words paths
      → IsOrderlySet plan paths → CalledCanStand plan paths second called → Adds words (called_closes called) (with_chosen paths called)
  called_added words paths None None long shows orderly can = nothing_added words paths shows
  called_added words paths None (Some called) long shows orderly can = absurd can
  called_added words paths (Some second) None long shows orderly can = absurd can
  called_added words paths (Some second) (Some called) long shows orderly can = one_added words paths called long shows orderly can.1

  module _ (words : List ℕ) (paths : List Path) (group index : ℕ) (call : CallPaths) (laws : IsLawful plan) (long : 453 ≤ length words)
      (shows : ShowsOffice plan words paths) (can : CanTake plan paths group index call) where
    abbrev closes : List Effect
    closes = path_closes call.calling ++ called_closes call.called

    abbrev more : List Path
    more = with_call_paths paths call

    abbrev closed : List ℕ
    closed = perform_all (office plan) words closes

    -- the call's paths are closed
    call_added : Adds words closes more
    call_added =
        let first = one_added words paths call.calling (omega arith) shows.switches shows.lawful.orderly can.calling in
        more_added words (path_closes call.calling) (called_closes call.called) (with_path paths call.calling) more first
        (called_added (perform_all (office plan) words (path_closes call.calling)) (with_path paths call.calling) can.member.second call.called
        (omega (arith, first.size)) first.switches (orderly-with plan paths call.calling can.calling shows.lawful.orderly) can.called)

    group_range : group < 16
    group_range = (member-numbers plan laws group index can.member can.listed).0

    group_before : (number : ℕ) → number < 16 → GroupShows plan paths number (word_of closed (GroupWord number))
    group_before = group_kept words paths more closes long shows call_added

    -- the word of the member's group, with its bit set
    own_group : GroupShows plan more group (bit_or (word_of closed (GroupWord group)) (2 ^ index))
    own_group at = elim (cases_eq at index) [
      | inl same ↦
          ap (bit_at (bit_or (word_of closed (GroupWord group)) (2 ^ index))) same
          ∙ bit-set (word_of closed (GroupWord group)) index
          ∙ sym (ap (λ b. if b then 1 else 0) (ap (is_busy_at plan more group) same ∙ busy_after plan paths group index call can))
      | inr other ↦
          bit-kept (word_of closed (GroupWord group)) index at other
          ∙ group_before group group_range at
          ∙ ap (λ b. if b then 1 else 0) (sym (others_after plan paths group index call can laws group at (λ same same'. other same')))
    ]

    abbrev taken : List ℕ
    taken = perform (office plan) closed (SetBit group index)

    taken_shows : ShowsOffice plan taken more
    taken_shows =
        member_shows words paths more closes long shows call_added group index (bit_or (word_of closed (GroupWord group)) (2 ^ index)) group_range
        (lawful-take plan paths group index call can laws shows.lawful) (others_after plan paths group index call can laws) own_group

    taken_words : perform_all (office plan) words (closes ++ SetBit group index ∷ []) ≡ taken
    unfolding perform_all
    taken_words = perform_all-append words closes (SetBit group index ∷ [])

    -- once a member's effects are made, the words show the set with its paths
    pub take_shows : ShowsOffice plan (perform_all (office plan) words (take_effects (record { group = group; index = index; paths = call }))) more
    take_shows = subst (λ (after : List ℕ). ShowsOffice plan after more) (sym taken_words) taken_shows

    -- the bit is 0 until it is set
    bit_was_clear : IsDue (SetBit group index) (slice_index closed (400 + group))
    bit_was_clear = group_before group group_range index ∙ ap (λ b. if b then 1 else 0) (idle_before plan paths group index call can)

    -- and each of the effects is due when it is made
    pub take_due : AreDue (office plan) words (take_effects (record { group = group; index = index; paths = call }))
    take_due = due-append words closes (SetBit group index ∷ []) call_added.due (bit_was_clear, tt)
