-- a completing job tests what is held by then, and lets go and takes what is held
use Rattle.std.proofs.Common.{◌≡◌, ℕ, suc, ◌<◌, ◌==◌, Bool, true, false, List, [], ◌∷◌, ◌++◌, refl, Option, Some, None, IfSome, if◌then◌else◌, option_and_then}
use Rattle.std.proofs.Common.{slice_get}
use Rattle.turns.{specs.{Script.{Ends, ◌>>=◌}, System.KeepsTo}, proofs.{Lists.in_last, ReadWith.keeps_read_with}}
use Rattle.xbar_equip.specs.{Dialled.{code_of, number_of}, Len.{Line, IsLine, line_eq}, declared.{conn.Conn.{Conn, TheVariants.Group}, path.Path.Path}}
use Rattle.xbar_plan.specs.{Lawful.IsLawful, Tables.{Tables, lines_of, member_place, register_group, route_of, AreGroups}}
use Rattle.xbar_plan.{specs.declared.group.MemberPlace.MemberPlace, proofs.{LawfulLookups.{lines_of-range, route_of-range}, MemberPlaces.member_place-numbers}}
use Rattle.xbar_office.specs.{Trunks.leads_inside, declared.{aim.Aim.TheVariants.Connected, reply.End.TheVariants.{CalledBusy, NoRegister, VacantCode}}}
use Rattle.{xbar_office.specs.declared.reply.End.TheVariants.VacantNumber, xbar_jobs.specs.Closing.{leave_effects, leave_of, leaving, value_after}}
use Rattle.xbar_jobs.specs.Completing.{call, call_by, call_from, call_line, call_number, call_without, complete_from, complete_steps, hunt, if_register}
use Rattle.xbar_jobs.specs.{Completing.{register_at, unless_busy, unless_calling}, Connecting.alone, Office.office, Script.{Script, as_if_made}}
use Rattle.xbar_jobs.specs.{Sides.party_after, Tracing.{approach, channel_of, trace}, declared.{decision.Leave.Leave, party.Party.Party}}
use Rattle.xbar_jobs.proofs.{ConnectKeeps.connect_keeps, FittingEffects.leave_words, HeldEffects.{IsHeldIfAny, IsHeldLeave, IsHeldPath, IsTaking}}
use Rattle.xbar_jobs.proofs.HeldEffects.{IsWellCovered, leave_held, leaving_covered, line_held, path_held, refused_takes, taking_covered}
use Rattle.xbar_jobs.proofs.{HeldWords.{keeps_then, one_more}, Items.if_found, TracingKeeps.{HoldsLine, approach_keeps, trace_keeps}}

-- the line of a party that was found is held
abbrev HoldsFound : List Conn → Option Party → Type 0
HoldsFound held found = IfSome found (λ party. HoldsLine held party)

-- each of some lines is there
abbrev AreLines : List Line → Type 0
AreLines lines = (k : ℕ) (line : Line) → slice_get lines k ≡ Some line → IsLine line

abbrev HasNumbers : MemberPlace → Type 0
HasNumbers found = (found.group < 16) × (found.index < 40)

module _ (plan : Tables) where
  -- lines may be hunted through, whatever is held
  abbrev Hunts : Script (Option Party) → Type 0
  Hunts next = (held : List Conn) → KeepsTo (office plan) HoldsFound held next

  unless_busy_keeps : (held : List Conn) (party : Party) (next : Script (Option Party)) (channel : Option ℕ) → HoldsLine held party → Hunts next
      → KeepsTo (office plan) HoldsFound held (unless_busy party next channel)
  unfolding KeepsTo unless_busy
  unless_busy_keeps held party next None own hunts = own
  unless_busy_keeps held party next (Some channel) own hunts = hunts held

  unless_calling_keeps : (held : List Conn) (line : Line) (next : Script (Option Party)) (same : Bool) → IsLine line → Hunts next
      → KeepsTo (office plan) HoldsFound held (unless_calling line next same)
  unfolding unless_calling
  unless_calling_keeps held line next true range hunts = hunts held
  unless_calling_keeps held line next false range hunts =
      keeps_then plan HoldsLine HoldsFound held (approach line) _ (approach_keeps plan held line range)
      (λ conns party among own. unless_busy_keeps conns party next (channel_of party) own hunts)

  hunt_keeps : (calling : Line) (lines : List Line) → AreLines lines → Hunts (hunt calling lines)
  unfolding KeepsTo hunt
  hunt_keeps calling [] ranges held = tt
  hunt_keeps calling (line ∷ lines) ranges held =
      unless_calling_keeps held line (hunt calling lines) (line_eq line calling) (ranges 0 line refl)
      (hunt_keeps calling lines (λ k other is. ranges (suc k) other is))

module _ (plan : Tables) (laws : IsLawful plan) where
  module _ (calling : Party) (groups : List ℕ) (there : AreGroups plan groups) where
    call_line_keeps : (held : List Conn) (called : Option Party) → HoldsLine held calling → HoldsFound held called
        → KeepsTo (office plan) IsTaking held (call_line plan calling groups called)
    unfolding KeepsTo call_line
    call_line_keeps held None own found = refused_takes held CalledBusy
    call_line_keeps held (Some called) own found = connect_keeps plan laws held Connected _ groups (record { calling = own; called = found }) there

    call_number_keeps : (held : List Conn) (lines : Option (List Line)) → HoldsLine held calling → IfSome lines (λ lines. AreLines lines)
        → KeepsTo (office plan) IsTaking held (call_number plan calling groups lines)
    unfolding KeepsTo call_number
    call_number_keeps held None own ranges = refused_takes held VacantNumber
    call_number_keeps held (Some lines) own ranges =
        keeps_then plan HoldsFound IsTaking held (hunt calling.line lines) _ (hunt_keeps plan calling.line lines ranges held)
        (λ conns called among found. call_line_keeps conns called (line_held held conns among calling.line own) found)

    call_by_keeps : (held : List Conn) (dialled : ℕ) (inside : Bool) → HoldsLine held calling
        → KeepsTo (office plan) IsTaking held (call_by plan calling dialled groups inside)
    unfolding call_by
    call_by_keeps held dialled true own =
        let lines = lines_of plan (number_of dialled) in
        call_number_keeps held lines own (if_found lines (λ found is. lines_of-range plan laws (number_of dialled) found is))
    call_by_keeps held dialled false own = connect_keeps plan laws held Connected (alone calling) groups (record { calling = own; called = tt }) there

  -- with the calling line held, a call may be made to what was dialled
  call_keeps : (held : List Conn) (calling : Party) (dialled : ℕ) (groups : Option (List ℕ)) → HoldsLine held calling
      → IfSome groups (λ groups. AreGroups plan groups) → KeepsTo (office plan) IsTaking held (call plan calling dialled groups)
  unfolding KeepsTo call
  call_keeps held calling dialled None own there = refused_takes held VacantCode
  call_keeps held calling dialled (Some groups) own there = call_by_keeps calling groups there held dialled (leads_inside plan groups) own

  -- a call made as if a member were let go, which is decided then
  leaving_keeps : (held : List Conn) (calling : Party) (dialled : ℕ) (leave : Leave) → leave.other ≡ None → HoldsLine held calling → IsHeldLeave held leave
      → KeepsTo (office plan) (IsWellCovered plan) held
      (as_if_made (leave_effects leave) (call plan (party_after (leave_effects leave) calling) dialled (route_of plan (code_of dialled))) >>= λ decision. Ends
      (leaving leave decision))
  unfolding KeepsTo
  leaving_keeps held calling dialled leave alone line let_go =
      let after : Party = party_after (leave_effects leave) calling in
      let groups : Option (List ℕ) = route_of plan (code_of dialled) in
      keeps_then plan IsTaking (IsWellCovered plan) held _ _
      (keeps_read_with (office plan) IsTaking held (value_after (leave_effects leave)) _ (leave_words plan leave)
      (call_keeps held after dialled groups line (if_found groups (λ found is. route_of-range plan laws (code_of dialled) found is))))
      (λ conns decision still taking. leaving_covered plan conns leave decision alone (leave_held held conns still leave let_go) taking)

  -- the register's group is seized first
  without_keeps : (held : List Conn) (calling : Party) (dialled : ℕ) (own : Path) (found : MemberPlace) → HoldsLine held calling → IsHeldPath held own
      → HasNumbers found → KeepsTo (office plan) (IsWellCovered plan) held (call_without plan calling dialled (leave_of own None found))
  unfolding KeepsTo call_without ◌>>=◌
  without_keeps held calling dialled own found line path numbers =
      let more : List Conn = held ++ Group found.group ∷ [] in
      let still = one_more held (Group found.group) in
      let let_go : IsHeldLeave more (leave_of own None found) = record {
        own = path_held held more still own path;
        other = tt;
        member = record { own = in_last (Group found.group) held; numbers = numbers };
      } in
      (numbers.0, leaving_keeps more calling dialled (leave_of own None found) refl (line_held held more still calling.line line) let_go)

  from_keeps : (held : List Conn) (calling : Party) (dialled : ℕ) (own : Path) (found : Option MemberPlace) → HoldsLine held calling → IsHeldPath held own
      → IfSome found (λ found. HasNumbers found) → KeepsTo (office plan) (IsWellCovered plan) held (call_from plan calling dialled own found)
  unfolding KeepsTo call_from
  from_keeps held calling dialled own None line path numbers = taking_covered plan held _ (refused_takes held NoRegister)
  from_keeps held calling dialled own (Some found) line path numbers = without_keeps held calling dialled own found line path numbers

  -- the numbers of a register that is found are in range
  register_numbers : (own : Path) → IfSome (register_at plan own) (λ found. HasNumbers found)
  register_numbers own = of (member_place plan own.place) refl where
    tested : (found : MemberPlace) (is : Bool) → HasNumbers found → IfSome (if is then Some found else None) (λ found. HasNumbers found)
    tested found true numbers = numbers
    tested found false numbers = tt

    of : (found : Option MemberPlace) → member_place plan own.place ≡ found → IfSome (option_and_then (if_register plan) found) (λ found. HasNumbers found)
    of None is = tt
    of (Some found) is = tested found (found.group == register_group plan) (member_place-numbers plan laws own.place found is)

  complete_from_keeps : (held : List Conn) (calling : Party) (dialled : ℕ) (own : Option Path) → HoldsLine held calling → IsHeldIfAny held own
      → KeepsTo (office plan) (IsWellCovered plan) held (complete_from plan calling dialled own)
  unfolding KeepsTo complete_from
  complete_from_keeps held calling dialled None line path = taking_covered plan held _ (refused_takes held NoRegister)
  complete_from_keeps held calling dialled (Some own) line path = from_keeps held calling dialled own (register_at plan own) line path (register_numbers own)

  -- a completing job's script tests what is protected, and what it decides is covered
  pub complete_keeps : (line : Line) (dialled : ℕ) → IsLine line → KeepsTo (office plan) (IsWellCovered plan) [] (complete_steps plan line dialled)
  unfolding complete_steps
  complete_keeps line dialled range =
      keeps_then plan HoldsLine (IsWellCovered plan) [] (approach line) _ (approach_keeps plan [] line range)
      (
      λ held calling among own.
      keeps_then plan IsHeldIfAny (IsWellCovered plan) held (trace calling) _ (trace_keeps plan held calling own)
      (λ conns path still path_own. complete_from_keeps conns calling dialled path (line_held held conns still calling.line own) path_own)
      )
