-- what a call adds to the set without the register's path
use Rattle.std.proofs.Common.{◌≡◌, ℕ, Bool, true, false, List, [], ◌∷◌, length, inl, inr, refl, sym, ◌∙◌, subst, Option, Some, None, ◌&&◌, ◌||◌, ◌==◌, not}
use Rattle.std.proofs.Common.{is_some, if◌then◌else◌}
use Rattle.{std.specs.List.list_all, xbar_equip.specs.{Among.IsIn, Dialled.{code_of, number_of}, First.IsFirstBelow, Len.{Line, IsLine, is_line, line_eq}}}
use Rattle.xbar_equip.{specs.{Paths.{has_line, is_idle}, declared.path.Path.Path}, proofs.{FirstNumber.first_below-law, Lists.{each_passes, found_passes}}}
use Rattle.{xbar_equip.proofs.{Logic.{both, not_both}, PathTests.line_eq-exact, Ranges.line_in_range}, xbar_plan.specs.Group.{is_intra, is_outgoing, kind_eq}}
use Rattle.xbar_plan.specs.{Tables.{Tables, Station, Route, member_at, lines_of, route_of}, Lawful.{IsLawful, is_group, leads_to_trunks}}
use Rattle.xbar_plan.specs.declared.group.{GroupKind.{GroupKind, TheVariants.{Register, Intra, Outgoing}}, Member.Member}
use Rattle.xbar_plan.proofs.{LawfulParts.{passes, formed}, LawfulPlans.member-paired, LawfulLookups.group-there, Lookups.found-item}
use Rattle.xbar_office.specs.{Complete.{try_trunk, connect, call_line, call_number, call}, Members.{members_of, first_idle, is_idle_at}}
use Rattle.xbar_office.specs.{Trunks.{leads_inside, called_line, trunk_or, idle_trunk}, TwoTrials.two_trials, declared.reply.End.TheVariants.CalledBusy}
use Rattle.xbar_office.specs.declared.{reply.End.TheVariants.{TrunksBusy, VacantCode, VacantNumber}, route.IdleTrunk.IdleTrunk, trial.Parties.Parties}
use Rattle.xbar_office.proofs.{AddedByEnd.{AddsPaths, refused-adds, connected-adds}, GoodTrials.{AreParties, good_trials}}

-- an idle trunk is a member of one of the groups, and idle
pub record IsIdleTrunk (plan : Tables) (paths : List Path) (groups : List ℕ) (trunk : IdleTrunk) : Type 0 where
  pub within : IsIn trunk.group groups
  pub idle : is_idle_at paths (members_of plan trunk.group) trunk.first ≡ true

pub idle_trunk-is : (plan : Tables) (paths : List Path) (groups : List ℕ) (trunk : IdleTrunk) → idle_trunk plan paths groups ≡ Some trunk
    → IsIdleTrunk plan paths groups trunk
idle_trunk-is plan paths [] trunk e = cc
idle_trunk-is plan paths (group ∷ groups) trunk e =
    of (idle_trunk-is plan paths groups trunk) (first_idle paths (members_of plan group))
    (first_below-law (is_idle_at paths (members_of plan group)) (length (members_of plan group))) e where
      of : (idle_trunk plan paths groups ≡ Some trunk → IsIdleTrunk plan paths groups trunk) → (found : Option ℕ)
          → IsFirstBelow (is_idle_at paths (members_of plan group)) (length (members_of plan group)) found
          → trunk_or group found (idle_trunk plan paths groups) ≡ Some trunk → IsIdleTrunk plan paths (group ∷ groups) trunk
      of next None none e = let later = next e in record { within = inr later.within; idle = later.idle }
      of next (Some first) is e =
          let here : IsIdleTrunk plan paths (group ∷ groups) (record { group = group; first = first }) = record { within = inl refl; idle = is.1 } in
          let same : record { group = group; first = first } ≡ trunk = cc in
          subst (λ (t : IdleTrunk). IsIdleTrunk plan paths (group ∷ groups) t) same here

-- the members of an intra group are pairs
intra_paired : (plan : Tables) → IsLawful plan → (group : ℕ) → is_group is_intra plan.groups group ≡ true → (i : ℕ) (member : Member)
    → member_at plan group i ≡ Some member → is_some member.second ≡ true
intra_paired plan laws group intra i member listed =
    let there = group-there is_intra plan.groups group intra in
    member-paired plan laws group i there.0 member there.1 listed ∙ there.2

outgoing_not_intra : (kind : GroupKind) → kind_eq kind Outgoing ≡ true → kind_eq kind Intra ≡ false
outgoing_not_intra Register e = cc
outgoing_not_intra Intra e = cc
outgoing_not_intra Outgoing e = refl

-- those of an outgoing group have one place
outgoing_single : (plan : Tables) → IsLawful plan → (group : ℕ) → is_group is_outgoing plan.groups group ≡ true → (i : ℕ) (member : Member)
    → member_at plan group i ≡ Some member → is_some member.second ≡ false
outgoing_single plan laws group outgoing i member listed =
    let there = group-there is_outgoing plan.groups group outgoing in
    member-paired plan laws group i there.0 member there.1 listed ∙ outgoing_not_intra there.0.kind there.2

or_second : (a b : Bool) → (a || b) ≡ true → a ≡ false → b ≡ true
or_second true b e f = cc
or_second false b e f = e

-- a code that does not lead inside leads only to outgoing groups
pub leads_out : (plan : Tables) → IsLawful plan → (code : ℕ) (groups : List ℕ) → route_of plan code ≡ Some groups → leads_inside plan groups ≡ false
    → list_all (is_group is_outgoing plan.groups) groups ≡ true
leads_out plan laws code groups e outside =
    let found = found-item (λ (r : Route). r.groups) (λ (r : Route). r.code == code) plan.routes groups e in
    let leads = each_passes (leads_to_trunks plan.groups) plan.routes found.0 (passes plan laws).trunks found.1 in
    let here : (leads_inside plan groups || list_all (is_group is_outgoing plan.groups) groups) ≡ true =
    subst (λ (gs : List ℕ). (leads_inside plan gs || list_all (is_group is_outgoing plan.groups) gs) ≡ true) found.3 leads in
    or_second (leads_inside plan groups) (list_all (is_group is_outgoing plan.groups) groups) here outside

-- the lines of a number are in range
pub lines_range : (plan : Tables) → IsLawful plan → (number : ℕ) (lines : List Line) → lines_of plan number ≡ Some lines → (line : Line) → IsIn line lines
    → IsLine line
lines_range plan laws number lines e line within =
    let found = found-item (λ (s : Station). s.lines) (λ (s : Station). s.number == number) plan.stations lines e in
    let all = each_passes (λ (s : Station). list_all is_line s.lines) plan.stations found.0 (formed plan laws).lines found.1 in
    line_in_range line (each_passes is_line found.0.lines line all (subst (λ (ls : List Line). IsIn line ls) (sym found.3) within))

module _ (plan : Tables) (paths : List Path) (calling : Line) (laws : IsLawful plan) (in_range : IsLine calling)
    (idle : is_idle (has_line calling) paths ≡ true) where
  -- parties that fit each of the groups are joined by trials on one of them
  connect_adds : (parties : Parties) (groups : List ℕ) → ((group : ℕ) → IsIn group groups → AreParties plan paths group parties)
      → AddsPaths plan paths (connect plan paths parties groups)
  connect_adds parties groups are = of (idle_trunk plan paths groups) refl where
    of : (found : Option IdleTrunk) → idle_trunk plan paths groups ≡ found → AddsPaths plan paths (try_trunk plan paths parties found)
    of None e = refused-adds plan paths TrunksBusy refl
    of (Some trunk) e =
        let is = idle_trunk-is plan paths groups trunk e in
        connected-adds plan paths trunk.group (two_trials plan paths parties (members_of plan trunk.group) trunk.first) laws
        (good_trials plan paths trunk.group parties laws (are trunk.group is.within) trunk.first is.idle)

  -- a called line that was found is idle, and is not the calling line
  pub called_are : (groups : List ℕ) → leads_inside plan groups ≡ true → (lines : List Line) → ((line : Line) → IsIn line lines → IsLine line) → (called : Line)
      → called_line paths calling lines ≡ Some called
      → (group : ℕ) → IsIn group groups → AreParties plan paths group (record { calling = calling; called = Some called })
  called_are groups inside lines ranges called found group within =
      let passes = found_passes (λ line. not (line_eq line calling) && is_idle (has_line line) paths) lines called found in
      let tests = both (not (line_eq called calling)) (is_idle (has_line called) paths) passes.1 in
      record {
        calling = in_range;
        calling_idle = idle;
        called = λ line is. let same : called ≡ line = cc in subst (λ (l : Line). IsLine l) same (ranges called passes.0);
        called_idle = λ line is. let same : called ≡ line = cc in subst (λ (l : Line). is_idle (has_line l) paths ≡ true) same tests.1;
        apart = λ line is same. let other : called ≡ line = cc in
            not_both (line_eq called calling) tests.0 ((line_eq-exact called calling).1 (other ∙ sym same));
        paired = intra_paired plan laws group (each_passes (is_group is_intra plan.groups) groups group inside within);
      }

  line_adds : (groups : List ℕ) → leads_inside plan groups ≡ true → (lines : List Line) → ((line : Line) → IsIn line lines → IsLine line)
      → (found : Option Line) → called_line paths calling lines ≡ found → AddsPaths plan paths (call_line plan paths calling groups found)
  line_adds groups inside lines ranges None found = refused-adds plan paths CalledBusy refl
  line_adds groups inside lines ranges (Some called) found =
      connect_adds (record { calling = calling; called = Some called }) groups (called_are groups inside lines ranges called found)

  number_adds : (groups : List ℕ) → leads_inside plan groups ≡ true → (number : ℕ) (found : Option (List Line)) → lines_of plan number ≡ found
      → AddsPaths plan paths (call_number plan paths calling groups found)
  number_adds groups inside number None found = refused-adds plan paths VacantNumber refl
  number_adds groups inside number (Some lines) found =
      line_adds groups inside lines (lines_range plan laws number lines found) (called_line paths calling lines) refl

  -- a calling line without a called line fits an outgoing group
  pub outgoing_are : (groups : List ℕ) → list_all (is_group is_outgoing plan.groups) groups ≡ true → (group : ℕ) → IsIn group groups
      → AreParties plan paths group (record { calling = calling; called = None })
  outgoing_are groups out group within = record {
    calling = in_range;
    calling_idle = idle;
    called = λ line is. cc;
    called_idle = λ line is. cc;
    apart = λ line is. cc;
    paired = outgoing_single plan laws group (each_passes (is_group is_outgoing plan.groups) groups group out within);
  }

  out_adds : (groups : List ℕ) → list_all (is_group is_outgoing plan.groups) groups ≡ true
      → AddsPaths plan paths (connect plan paths (record { calling = calling; called = None }) groups)
  out_adds groups out = connect_adds (record { calling = calling; called = None }) groups (outgoing_are groups out)

  route_adds : (dialled code : ℕ) (groups : List ℕ) → route_of plan code ≡ Some groups → (b : Bool) → leads_inside plan groups ≡ b
      → AddsPaths plan paths (if b then call_number plan paths calling groups (lines_of plan (number_of dialled)) else connect plan paths
      (record { calling = calling; called = None }) groups)
  route_adds dialled code groups found true inside = number_adds groups inside (number_of dialled) (lines_of plan (number_of dialled)) refl
  route_adds dialled code groups found false outside = out_adds groups (leads_out plan laws code groups found outside)

  -- a call adds the paths of its end
  pub call-adds : (dialled : ℕ) → AddsPaths plan paths (call plan paths calling dialled (route_of plan (code_of dialled)))
  call-adds dialled = of (route_of plan (code_of dialled)) refl where
    of : (found : Option (List ℕ)) → route_of plan (code_of dialled) ≡ found → AddsPaths plan paths (call plan paths calling dialled found)
    of None found = refused-adds plan paths VacantCode refl
    of (Some groups) found = route_adds dialled (code_of dialled) groups found (leads_inside plan groups) refl
