-- the paths that a call adds end at trunks, so the register's path that it lets go is not among
-- them
use Rattle.std.proofs.Common.{◌≡◌, ◌≢◌, ℕ, ◌⊎◌, Bool, true, false, List, inl, inr, refl, sym, ◌∙◌, ap, subst, Option, Some, None, if◌then◌else◌, slice_get}
use Rattle.{std.specs.List.list_all, xbar_equip.specs.{Among.IsIn, Dialled.{code_of, number_of}, Len.{Line, IsLine}, Paths.{has_line, is_idle, with_path}}}
use Rattle.xbar_equip.{specs.{Paths.without_path, Ten.TrunkPlace, declared.path.Path.Path}, proofs.{Lists.each_passes, PathSets.{with-in, without-in}}}
use Rattle.xbar_plan.specs.{Group.{TrunkGroup, is_intra, is_outgoing, is_register, kind_eq, places}, Lawful.{IsLawful, is_group}, Tables.{Tables, lines_of}}
use Rattle.xbar_plan.specs.{Tables.{member_at, register_group, route_of}, declared.group.GroupKind.{GroupKind, TheVariants.{Register, Intra, Outgoing}}}
use Rattle.xbar_plan.{specs.declared.group.Member.Member, proofs.{LawfulLookups.{group-there, register_group-is}, LawfulPlans.{one_member, stands_at-has}}}
use Rattle.{xbar_plan.proofs.MemberPlaces.member_place-member, xbar_office.specs.{Chosen.with_chosen, Complete.{call, call_line, call_number, complete}}}
use Rattle.xbar_office.specs.{Complete.{connect, try_trunk}, Done.{Done, chosen_paths, with_added}, LawfulSet.IsLawfulSet, Members.members_of}
use Rattle.xbar_office.specs.{Standing.register_path, Trunks.{called_line, idle_trunk, leads_inside}, TwoTrials.two_trials, declared.route.IdleTrunk.IdleTrunk}
use Rattle.xbar_office.{specs.declared.trial.{Parties.Parties, Choice.Choice}, proofs.CallJobs.{called_are, idle_trunk-is, leads_out, lines_range}}
use Rattle.xbar_office.proofs.{CallJobs.outgoing_are, CompletedJobs.{complete-is_call, line_idle}, GoodTrials.{AreParties, GoodChoice, good_trials}}
use Rattle.xbar_office.proofs.{RegisterPaths.{ends_at_register-is, register_path-is}, TakenMembers.{CalledCanStand, second-has}}

-- a group has one kind
not_intra : (kind : GroupKind) → kind_eq kind Register ≡ true → kind_eq kind Intra ≡ true → ⊥
not_intra Register is other = cc
not_intra Intra is other = cc
not_intra Outgoing is other = cc

not_outgoing : (kind : GroupKind) → kind_eq kind Register ≡ true → kind_eq kind Outgoing ≡ true → ⊥
not_outgoing Register is other = cc
not_outgoing Intra is other = cc
not_outgoing Outgoing is other = cc

module _ (plan : Tables) (laws : IsLawful plan) where
  -- a group that registers can't be is not theirs
  not_registers : (test : TrunkGroup → Bool) → ((group : TrunkGroup) → is_register group ≡ true → test group ≡ true → ⊥) → (number : ℕ)
      → is_group test plan.groups number ≡ true → number ≢ register_group plan
  not_registers test apart number passes same =
      let there = group-there test plan.groups number passes in
      let registers = register_group-is plan laws in
      let found : Some there.0 ≡ Some registers.0 = sym there.1 ∙ ap (slice_get plan.groups) same ∙ registers.1 in
      let one : there.0 ≡ registers.0 = cc in
      apart there.0 (ap is_register one ∙ registers.2) there.2

  -- a path ends at a member of another group than the registers'
  record EndsAtTrunk (path : Path) : Type 0 where
    pub group : ℕ
    pub index : ℕ
    pub member : Member
    pub listed : member_at plan group index ≡ Some member
    pub there : IsIn path.place (places member)
    pub other : group ≢ register_group plan

  -- a path was there, or ends at a trunk
  abbrev WasOrEnds : List Path → Path → Type 0
  WasOrEnds paths path = IsIn path paths ⊎ EndsAtTrunk path

  module _ (paths : List Path) where
    module _ (group index : ℕ) (member : Member) (listed : member_at plan group index ≡ Some member) (apart : group ≢ register_group plan) where
      ends_at : (path : Path) → IsIn path.place (places member) → EndsAtTrunk path
      ends_at path there = record { group = group; index = index; member = member; listed = listed; there = there; other = apart }

      called_ends : (before : List Path) (second : Option TrunkPlace) (called : Option Path) → member.second ≡ second → CalledCanStand plan before second called
          → ((path : Path) → IsIn path before → WasOrEnds paths path) → (path : Path) → IsIn path (with_chosen before called) → WasOrEnds paths path
      called_ends before second None paired can were path within = were path within
      called_ends before None (Some called) paired can were path within = absurd can
      called_ends before (Some second) (Some called) paired can were path within = elim (with-in before called path within) [
        | inl same ↦ inr (ends_at path (subst (λ (place : TrunkPlace). IsIn place (places member)) (sym can.0 ∙ ap (λ (p : Path). p.place) (sym same))
            (second-has member second paired)))
        | inr was ↦ were path was
      ]

    -- of a choice, the new paths do
    choice_ends : (group : ℕ) (choice : Option Choice) → group ≢ register_group plan → GoodChoice plan paths group choice → (path : Path)
        → IsIn path (with_added paths (chosen_paths choice)) → WasOrEnds paths path
    choice_ends group None apart good path within = inl within
    choice_ends group (Some choice) apart can path within =
        called_ends group choice.index can.member can.listed apart (with_path paths choice.paths.calling) can.member.second choice.paths.called refl can.called
        calling path within where
          calling : (path : Path) → IsIn path (with_path paths choice.paths.calling) → WasOrEnds paths path
          calling path within = elim (with-in paths choice.paths.calling path within) [
            | inl same ↦ inr (ends_at group choice.index can.member can.listed apart path (inl (ap (λ (p : Path). p.place) same ∙ can.first)))
            | inr was ↦ inl was
          ]

    -- so of parties that are joined by groups of trunks
    connect_ends : (parties : Parties) (groups : List ℕ) → ((group : ℕ) → IsIn group groups → group ≢ register_group plan)
        → ((group : ℕ) → IsIn group groups → AreParties plan paths group parties)
        → (path : Path) → IsIn path (connect plan paths parties groups).paths → WasOrEnds paths path
    connect_ends parties groups trunks are = of (idle_trunk plan paths groups) refl where
      of : (found : Option IdleTrunk) → idle_trunk plan paths groups ≡ found → (path : Path) → IsIn path (try_trunk plan paths parties found).paths
          → WasOrEnds paths path
      of None e path within = inl within
      of (Some trunk) e path within =
          let is = idle_trunk-is plan paths groups trunk e in
          choice_ends trunk.group (two_trials plan paths parties (members_of plan trunk.group) trunk.first).choice (trunks trunk.group is.within)
          (good_trials plan paths trunk.group parties laws (are trunk.group is.within) trunk.first is.idle) path within

    module _ (calling : Line) (in_range : IsLine calling) (idle : is_idle (has_line calling) paths ≡ true) where
      line_ends : (groups : List ℕ) → leads_inside plan groups ≡ true → (lines : List Line) → ((line : Line) → IsIn line lines → IsLine line)
          → (found : Option Line) → called_line paths calling lines ≡ found
          → (path : Path) → IsIn path (call_line plan paths calling groups found).paths → WasOrEnds paths path
      line_ends groups inside lines ranges None found path within = inl within
      line_ends groups inside lines ranges (Some called) found path within =
          connect_ends (record { calling = calling; called = Some called }) groups
          (λ group there. not_registers is_intra (λ g. not_intra g.kind) group (each_passes (is_group is_intra plan.groups) groups group inside there))
          (called_are plan paths calling laws in_range idle groups inside lines ranges called found) path within

      number_ends : (groups : List ℕ) → leads_inside plan groups ≡ true → (number : ℕ) (found : Option (List Line)) → lines_of plan number ≡ found
          → (path : Path) → IsIn path (call_number plan paths calling groups found).paths → WasOrEnds paths path
      number_ends groups inside number None found path within = inl within
      number_ends groups inside number (Some lines) found path within =
          line_ends groups inside lines (lines_range plan laws number lines found) (called_line paths calling lines) refl path within

      out_ends : (groups : List ℕ) → list_all (is_group is_outgoing plan.groups) groups ≡ true → (path : Path)
          → IsIn path (connect plan paths (record { calling = calling; called = None }) groups).paths → WasOrEnds paths path
      out_ends groups out path within =
          connect_ends (record { calling = calling; called = None }) groups
          (λ group there. not_registers is_outgoing (λ g. not_outgoing g.kind) group (each_passes (is_group is_outgoing plan.groups) groups group out there))
          (outgoing_are plan paths calling laws in_range idle groups out) path within

      route_ends : (dialled code : ℕ) (groups : List ℕ) → route_of plan code ≡ Some groups → (inside : Bool) → leads_inside plan groups ≡ inside → (path : Path)
          → IsIn path (if inside then call_number plan paths calling groups (lines_of plan (number_of dialled)) else connect plan paths
          (record { calling = calling; called = None }) groups).paths
          → WasOrEnds paths path
      route_ends dialled code groups found true inside path within =
          number_ends groups inside (number_of dialled) (lines_of plan (number_of dialled)) refl path within
      route_ends dialled code groups found false outside path within = out_ends groups (leads_out plan laws code groups found outside) path within

      call_ends : (dialled : ℕ) (found : Option (List ℕ)) → route_of plan (code_of dialled) ≡ found → (path : Path)
          → IsIn path (call plan paths calling dialled found).paths → WasOrEnds paths path
      call_ends dialled None found path within = inl within
      call_ends dialled (Some groups) found path within = route_ends dialled (code_of dialled) groups found (leads_inside plan groups) refl path within

  -- a completing job takes the path to its line's register out
  pub register_gone : (paths : List Path) (line : Line) (dialled : ℕ) (own : Path) → IsLawfulSet plan paths → IsLine line
      → register_path plan paths line ≡ Some own → ¬ IsIn own (complete plan paths line dialled).paths
  register_gone paths line dialled own lawful in_range register within =
      let there = subst (λ (done : Done). IsIn own done.paths) (complete-is_call plan paths line dialled own laws lawful in_range register) within in
      elim (call_ends (without_path paths own) line in_range (line_idle plan paths line dialled own laws lawful in_range register) dialled
      (route_of plan (code_of dialled)) refl own there) [
        | inl stayed ↦ (without-in paths own own lawful.orderly.set stayed).1 refl
        | inr trunk ↦
            let is = ends_at_register-is plan own (register_path-is plan paths line own register).ends in
            let named = member_place-member plan own.place is.found is.here in
            let one =
            one_member plan laws trunk.group trunk.index is.found.group is.found.index trunk.member named.member own.place trunk.listed named.here trunk.there
            (stands_at-has named.member own.place named.stands) in
            trunk.other (one.0 ∙ is.group)
      ]
