-- what the effects that let a call go make of words that show a set with it
use Rattle.std.proofs.Common.{◌≡◌, ℕ, ◌+◌, ◌-◌, ◌^◌, ◌<◌, ◌≤◌, false, List, [], ◌∷◌, ◌++◌, length, inl, inr, refl, sym, ◌∙◌, ap, subst, arith, bit_and, Option}
use Rattle.std.proofs.Common.{Some, None, is_some, option_and_then, slice_index, if◌then◌else◌, true≢false}
use Rattle.{std.{specs.Int.bit_at, proofs.lemmas.Bool.{cases_eq, cases_lt}}, turns.specs.System.{AreDue, perform, perform_all}}
use Rattle.xbar_equip.specs.{Among.IsIn, Ten.TrunkPlace, Paths.without_path, Word.GroupWord, declared.path.Path.Path}
use Rattle.xbar_plan.specs.{Tables.{Tables, member_at, member_place, register_group}, Lawful.IsLawful, declared.group.{Member.Member, MemberPlace.MemberPlace}}
use Rattle.xbar_plan.proofs.{LawfulPlans.member-numbers, MemberPlaces.{member_place-member, member_place-numbers}, OtherPlaces.other-paired}
use Rattle.{xbar_match.specs.Switches.word_of, xbar_office.specs.{Release.without_other, Standing.{path_at, other_path}}}
use Rattle.xbar_office.proofs.{DialJobs.single_register, ReleaseJobs.lawful-released, RemovedPaths.orderly-without}
use Rattle.xbar_jobs.specs.{Closing.{path_opens, other_opens, leave_effects, leave_of, IsDue}, Office.{is_busy_at, GroupShows, ShowsOffice, office}}
use Rattle.xbar_jobs.specs.declared.{effect.Effect.{Effect, TheVariants.ClearBit}, decision.Leave.Leave}
use Rattle.xbar_jobs.proofs.{BusyMembers.busy_of, ClearedBits.{bit-cleared, bit-uncleared, bit-past}}
use Rattle.xbar_jobs.proofs.{FreedMembers.{busy_before, freed_after, other_stays, others_as_before}, OpenedPaths.{one_opened, other_opened}}
use Rattle.xbar_jobs.proofs.TakenMembers.{Adds as LeadsTo, group_kept, member_shows, more_added as both_opened, due-append, perform_all-append}

-- a call of the set that is let go: its own path, the member at whose place that ends, and the other party's path
pub record IsLeave (plan : Tables) (paths : List Path) (leave : Leave) : Type 0 where
  pub within : IsIn leave.own paths
  pub found : MemberPlace
  pub here : member_place plan leave.own.place ≡ Some found
  pub group : leave.group ≡ found.group
  pub index : leave.index ≡ found.index
  pub other : leave.other ≡ other_path plan paths leave.own

-- the set without its paths
abbrev pub left : List Path → Leave → List Path
left paths leave = without_other (without_path paths leave.own) leave.other

-- a group has no busy member past the fortieth
idle-past : (plan : Tables) (paths : List Path) (number at : ℕ) → IsLawful plan → 40 ≤ at → is_busy_at plan paths number at ≡ false
idle-past plan paths number at laws past = by (member_at plan number at) refl where
  by : (o : Option Member) → member_at plan number at ≡ o → busy_of paths o ≡ false
  by None listed = refl
  by (Some member) listed = absurd (omega (arith, (member-numbers plan laws number at member listed).1))

module _ (plan : Tables) (words : List ℕ) (paths : List Path) (own : Path) (found : MemberPlace) (laws : IsLawful plan) (long : 453 ≤ length words)
    (shows : ShowsOffice plan words paths)
    (within : IsIn own paths) (here : member_place plan own.place ≡ Some found) where
  abbrev other : Option Path
  other = other_path plan paths own

  abbrev opens : List Effect
  opens = path_opens own ++ other_opens other

  abbrev rest : List Path
  rest = without_other (without_path paths own) other

  abbrev opened : List ℕ
  opened = perform_all (office plan) words opens

  abbrev freed : List ℕ
  freed = perform (office plan) opened (ClearBit found.group found.index)

  -- the call's paths are opened
  call_opened : LeadsTo plan words opens rest
  call_opened =
      let first = one_opened plan words paths own (omega arith) shows.switches shows.lawful.orderly within in
      both_opened plan words (path_opens own) (other_opens other) (without_path paths own) rest first
      (
      other_opened plan (perform_all (office plan) words (path_opens own)) (without_path paths own) other (omega (arith, first.size)) first.switches
      (orderly-without plan paths own shows.lawful.orderly) (other_stays plan paths own found laws shows.lawful within here)
      )

  numbers : (found.group < 16) × (found.index < 40)
  numbers = member_place-numbers plan laws own.place found here

  -- a group's word is as it was so far
  group_before : (number : ℕ) → number < 16 → GroupShows plan paths number (word_of opened (GroupWord number))
  group_before = group_kept plan words paths rest opens long shows call_opened

  as_before : (number at : ℕ) → (number ≡ found.group → at ≡ found.index → ⊥) → is_busy_at plan rest number at ≡ is_busy_at plan paths number at
  as_before = others_as_before plan paths own found laws shows.lawful within here

  abbrev group_word : ℕ
  group_word = word_of opened (GroupWord found.group)

  -- the word of the member's group, with its bit cleared
  own_group : GroupShows plan rest found.group (bit_and group_word (2 ^ 64 - 1 - 2 ^ found.index))
  own_group at = elim (cases_eq at found.index) [
    | inl same ↦
        ap (bit_at (bit_and group_word (2 ^ 64 - 1 - 2 ^ found.index))) same
        ∙ bit-cleared group_word found.index (omega (arith, numbers.1))
        ∙ sym (ap (λ b. if b then 1 else 0) (ap (is_busy_at plan rest found.group) same ∙ freed_after plan paths own found laws shows.lawful within here))
    | inr apart ↦
        elim (cases_lt at 64) [
          | inl below ↦
              bit-uncleared group_word found.index at (omega (arith, numbers.1)) below apart
              ∙ group_before found.group numbers.0 at
              ∙ ap (λ b. if b then 1 else 0) (sym (as_before found.group at (λ same same'. apart same')))
          | inr past ↦
              bit-past group_word found.index at past
              ∙ sym (ap (λ b. if b then 1 else 0) (idle-past plan rest found.group at laws (omega arith)))
        ]
  ]

  freed_shows : ShowsOffice plan freed rest
  freed_shows =
      member_shows plan words paths rest opens long shows call_opened found.group found.index (bit_and group_word (2 ^ 64 - 1 - 2 ^ found.index)) numbers.0
      (lawful-released plan paths own laws shows.lawful within) as_before own_group

  freed_words : perform_all (office plan) words (leave_effects (leave_of own other found)) ≡ freed
  unfolding perform_all
  freed_words = perform_all-append plan words opens (ClearBit found.group found.index ∷ [])

  -- once the effects that let it go are made, the words show the set without its paths
  pub effects_show : ShowsOffice plan (perform_all (office plan) words (leave_effects (leave_of own other found))) rest
  effects_show = subst (λ (after : List ℕ). ShowsOffice plan after rest) (sym freed_words) freed_shows

  -- the bit is 1 until it is cleared
  bit_was_set : IsDue (ClearBit found.group found.index) (slice_index opened (400 + found.group))
  bit_was_set = group_before found.group numbers.0 found.index ∙ ap (λ b. if b then 1 else 0) (busy_before plan paths own found laws shows.lawful within here)

  -- and each of the effects is due when it is made
  pub effects_due : AreDue (office plan) words (leave_effects (leave_of own other found))
  effects_due = due-append plan words opens (ClearBit found.group found.index ∷ []) call_opened.due (bit_was_set, tt)

-- a call that is let go is determined by its own path and its member's place
pub leave_is : (plan : Tables) (paths : List Path) (leave : Leave) (is : IsLeave plan paths leave)
    → leave ≡ leave_of leave.own (other_path plan paths leave.own) is.found
leave_is plan paths leave is = λ i. record { group = is.group i; index = is.index i; own = leave.own; other = is.other i }

-- so its effects show the set without its paths
pub leave_shows : (plan : Tables) (words : List ℕ) (paths : List Path) (leave : Leave) → IsLawful plan → 453 ≤ length words → ShowsOffice plan words paths
    → IsLeave plan paths leave
    → ShowsOffice plan (perform_all (office plan) words (leave_effects leave)) (left paths leave)
leave_shows plan words paths leave laws long shows is =
    subst (λ (l : Leave). ShowsOffice plan (perform_all (office plan) words (leave_effects l)) (left paths l)) (sym (leave_is plan paths leave is))
    (effects_show plan words paths leave.own is.found laws long shows is.within is.here)

-- and each is due when it is made
pub leave_due : (plan : Tables) (words : List ℕ) (paths : List Path) (leave : Leave) → IsLawful plan → 453 ≤ length words → ShowsOffice plan words paths
    → IsLeave plan paths leave
    → AreDue (office plan) words (leave_effects leave)
leave_due plan words paths leave laws long shows is =
    subst (λ (l : Leave). AreDue (office plan) words (leave_effects l)) (sym (leave_is plan paths leave is))
    (effects_due plan words paths leave.own is.found laws long shows is.within is.here)

-- a register has one place, so the path that ends there is let go alone
pub register_leave : (plan : Tables) (paths : List Path) (own : Path) (found : MemberPlace) → IsLawful plan → IsIn own paths
    → member_place plan own.place ≡ Some found
    → found.group ≡ register_group plan → IsLeave plan paths (leave_of own None found)
register_leave plan paths own found laws within here group =
    record { within = within; found = found; here = here; group = refl; index = refl; other = alone } where
      single : is_some found.other ≡ false
      single =
          let named = member_place-member plan own.place found here in
          ap is_some named.other
          ∙ other-paired plan laws found.group found.index named.member own.place named.here named.stands
          ∙ single_register plan laws found.index named.member (ap (λ (g : ℕ). member_at plan g found.index) (sym group) ∙ named.here)

      none_beside : (seen : Option TrunkPlace) → is_some seen ≡ false → option_and_then (path_at paths) seen ≡ None
      none_beside None e = refl
      none_beside (Some place) e = absurd (true≢false e)

      alone : None ≡ other_path plan paths own
      alone =
          sym (ap (λ (o : Option MemberPlace). option_and_then (path_at paths) (option_and_then (λ member. member.other) o)) here
          ∙ none_beside found.other single)
