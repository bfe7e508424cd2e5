-- how much a completing job asks for at most
use Rattle.std.proofs.Common.{ℕ, suc, ◌≤◌, Bool, true, false, List, [], ◌∷◌, length, refl, arith, Option, Some, None, IfSome}
use Rattle.{turns.specs.Script.{Ends, ◌>>=◌}, xbar_equip.specs.{Dialled.{code_of, number_of}, Len.{Line, line_eq}, declared.path.Path.Path}}
use Rattle.xbar_plan.specs.{Lawful.IsLawful, Tables.{Tables, lines_of, route_of}, declared.group.MemberPlace.MemberPlace}
use Rattle.{xbar_plan.proofs.LawfulLookups.{lines_of-count, route_of-count}, xbar_office.specs.{Trunks.leads_inside, declared.aim.Aim.TheVariants.Connected}}
use Rattle.xbar_jobs.specs.{Closing.{leave_effects, leave_of, leaving, value_after}, Completing.{call, call_by, call_from, call_line, call_number}}
use Rattle.xbar_jobs.specs.{Completing.{call_without, complete_from, complete_steps, hunt, register_at, unless_busy, unless_calling}, Connecting.alone}
use Rattle.xbar_jobs.specs.{Script.{Script, as_if_made}, Sides.party_after, Tracing.{approach, channel_of, trace}, declared.decision.Decision.Decision}
use Rattle.xbar_jobs.{specs.declared.{decision.Leave.Leave, party.Party.Party}, proofs.AskBounds.{Asks, asks_bind, asks_end, asks_more, asks_read, asks_then}}
use Rattle.xbar_jobs.proofs.{Items.if_found, TrialBounds.connect_asks, TracingBounds.{approach_asks, trace_asks}}

-- each line that is hunted has a test and a seizing
unless_busy_asks : (party : Party) (count : ℕ) (next : Script (Option Party)) (channel : Option ℕ) → Asks count count 0 next
    → Asks count count 0 (unless_busy party next channel)
unfolding Asks unless_busy
unless_busy_asks party count next None asks = tt
unless_busy_asks party count next (Some channel) asks = asks

unless_calling_asks : (line : Line) (count : ℕ) (next : Script (Option Party)) (same : Bool) → Asks count count 0 next
    → Asks (suc count) (suc count) 0 (unless_calling line next same)
unfolding unless_calling
unless_calling_asks line count next true asks = asks_more count count 0 (suc count) (suc count) 0 next (omega arith) (omega arith) (omega arith) asks
unless_calling_asks line count next false asks =
    asks_bind 1 1 0 count count 0 (suc count) (suc count) 0 (approach line) _ (omega arith) (omega arith) refl (approach_asks line)
    (λ party. unless_busy_asks party count next (channel_of party) asks)

hunt_asks : (calling : Line) (lines : List Line) → Asks (length lines) (length lines) 0 (hunt calling lines)
unfolding Asks hunt
hunt_asks calling [] = tt
hunt_asks calling (line ∷ lines) = unless_calling_asks line (length lines) (hunt calling lines) (line_eq line calling) (hunt_asks calling lines)

-- a call of at most ten lines by at most four groups has 38 tests and 16 seizings, six of them besides line link frames
module _ (plan : Tables) (calling : Party) (groups : List ℕ) (few : length groups ≤ 4) where
  call_line_asks : (called : Option Party) → Asks 28 6 6 (call_line plan calling groups called)
  unfolding Asks call_line
  call_line_asks None = tt
  call_line_asks (Some called) = connect_asks plan Connected _ groups 4 few

  call_number_asks : (lines : Option (List Line)) → IfSome lines (λ lines. length lines ≤ 10) → Asks 38 16 6 (call_number plan calling groups lines)
  unfolding Asks call_number
  call_number_asks None fit = tt
  call_number_asks (Some lines) fit =
      asks_then 10 10 0 28 6 6 (hunt calling.line lines) _
      (asks_more (length lines) (length lines) 0 10 10 0 (hunt calling.line lines) fit fit (omega arith) (hunt_asks calling.line lines))
      (λ called. call_line_asks called)

  call_by_asks : IsLawful plan → (dialled : ℕ) (inside : Bool) → Asks 38 16 6 (call_by plan calling dialled groups inside)
  unfolding call_by
  call_by_asks laws dialled true =
      let lines = lines_of plan (number_of dialled) in
      call_number_asks lines (if_found lines (λ found is. (lines_of-count plan laws (number_of dialled) found is).1))
  call_by_asks laws dialled false =
      asks_more 28 6 6 38 16 6 _ (omega arith) (omega arith) (omega arith) (connect_asks plan Connected (alone calling) groups 4 few)

module _ (plan : Tables) (laws : IsLawful plan) where
  call_asks : (calling : Party) (dialled : ℕ) (groups : Option (List ℕ)) → IfSome groups (λ groups. length groups ≤ 4)
      → Asks 38 16 6 (call plan calling dialled groups)
  unfolding Asks call
  call_asks calling dialled None few = tt
  call_asks calling dialled (Some groups) few = call_by_asks plan calling groups few laws dialled (leads_inside plan groups)

  -- the register's group is seized besides
  without_asks : (calling : Party) (dialled : ℕ) (leave : Leave) → Asks 38 17 7 (call_without plan calling dialled leave)
  unfolding Asks call_without ◌>>=◌
  without_asks calling dialled leave =
      let after : Party = party_after (leave_effects leave) calling in
      let groups : Option (List ℕ) = route_of plan (code_of dialled) in
      let made_call : Script Decision = as_if_made (leave_effects leave) (call plan after dialled groups) in (
        omega arith,
        asks_end 38 16 6 made_call (λ decision. Ends (leaving leave decision))
            (asks_read (value_after (leave_effects leave)) 38 16 6 _
            (call_asks after dialled groups (if_found groups (λ found is. (route_of-count plan laws (code_of dialled) found is).1)))) (λ decision. tt),
      )

  from_asks : (calling : Party) (dialled : ℕ) (own : Path) (found : Option MemberPlace) → Asks 38 17 7 (call_from plan calling dialled own found)
  unfolding Asks call_from
  from_asks calling dialled own None = tt
  from_asks calling dialled own (Some found) = without_asks calling dialled (leave_of own None found)

  complete_from_asks : (calling : Party) (dialled : ℕ) (own : Option Path) → Asks 38 17 7 (complete_from plan calling dialled own)
  unfolding Asks complete_from
  complete_from_asks calling dialled None = tt
  complete_from_asks calling dialled (Some own) = from_asks calling dialled own (register_at plan own)

  -- so a completing job has 42 tests and 19 seizings, eight of them besides line link frames
  pub complete_asks : (line : Line) (dialled : ℕ) → Asks 42 19 8 (complete_steps plan line dialled)
  unfolding complete_steps
  complete_asks line dialled =
      asks_then 1 1 0 41 18 8 (approach line) _ (approach_asks line)
      (λ calling. asks_then 3 1 1 38 17 7 (trace calling) _ (trace_asks calling) (λ own. complete_from_asks calling dialled own))
