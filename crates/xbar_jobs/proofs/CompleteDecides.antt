-- a completing job is decided, on words that show a set, as the one-marker office decides it on the set
use Rattle.std.proofs.Common.{◌≡◌, ℕ, ◌<◌, ◌≤◌, Bool, true, false, List, [], length, refl, sym, ◌∙◌, ap, subst, arith, Option, Some, None, ◌==◌, ◌++◌}
use Rattle.std.proofs.Common.{option_and_then, if◌then◌else◌, eqb-true}
use Rattle.{std.specs.Option.option_map_or, turns.{specs.{Script.{◌>>=◌, run}, System.{AreDue, perform_all}}, proofs.Completed.{perform_index, perform_length}}}
use Rattle.{turns.proofs.{ReadWith.run_read_with, Walks.run_bind}, xbar_equip.specs.{Among.IsIn, Dialled.code_of, Len.{Line, IsLine}}}
use Rattle.xbar_equip.{specs.{Paths.{has_line, is_idle, without_path}, declared.path.Path.Path}, proofs.{Lists.found_passes, PathTests.line_eq-exact}}
use Rattle.xbar_plan.specs.{Tables.{Tables, member_place, register_group, route_of}, Lawful.IsLawful, declared.group.MemberPlace.MemberPlace}
use Rattle.{xbar_plan.proofs.MemberPlaces.member_place-numbers, xbar_office.specs.{Done.Done, Standing.{if_register as path_if_register, path_of}}}
use Rattle.xbar_office.{specs.declared.reply.End.TheVariants.NoRegister, proofs.RegisterPaths.line-without}
use Rattle.xbar_jobs.specs.{Closing.{effect_word, effects, leave_effects, leave_of, leaving, value_after, take_effects}, Completing.{call, call_from}}
use Rattle.xbar_jobs.specs.{Completing.{call_without, complete_from, complete_steps, if_register}, Office.{ShowsOffice, office}, Script.as_if_made}
use Rattle.xbar_jobs.specs.{Sides.party_after, Tracing.{approach, trace}, declared.{decision.{Decision.Decision, Leave.Leave}, effect.Effect.Effect}}
use Rattle.xbar_jobs.{specs.declared.party.Party.Party, proofs.{CallDecides.call_takes, DialDecides.{DecidesOn, TakesOn, refused_takes}}}
use Rattle.xbar_jobs.proofs.{LeaveEffects.{IsLeave, leave_due, leave_shows, register_leave}, TakenMembers.{due-append, perform_all-append}}
use Rattle.xbar_jobs.proofs.{TestedParties.{opens_below, party_after-tested, party_of, party_of-tested}, TracedRuns.{approach_runs, trace_runs, traced_shown}}
use Rattle.turns.specs.Among as turns
use Rattle.xbar_office.specs.Complete as whole

-- a decision once something is let go is one that lets it go and then takes the same
leaving_decides : (plan : Tables) (words : List ℕ) (leave : Leave) (decision : Decision) (done : Done) → AreDue (office plan) words (leave_effects leave)
    → TakesOn plan (perform_all (office plan) words (leave_effects leave)) decision done → DecidesOn plan words (leaving leave decision) done
leaving_decides plan words leave decision done due takes =
    let gone = leave_effects leave in
    let taken = option_map_or take_effects decision.take [] in
    let after = perform_all (office plan) words gone in
    let same : effects decision ≡ taken =
    ap (λ (o : Option Leave). option_map_or leave_effects o [] ++ option_map_or take_effects decision.take []) takes.leaves in
    record {
      reply = takes.decides.reply;
      shows =
          subst (λ (all : List ℕ). ShowsOffice plan all done.paths) (sym (perform_all-append plan words gone taken))
          (subst (λ (more : List Effect). ShowsOffice plan (perform_all (office plan) after more) done.paths) same takes.decides.shows);
      due = due-append plan words gone taken due (subst (AreDue (office plan) after) same takes.decides.due);
    }

module _ (plan : Tables) (words : List ℕ) (paths : List Path) (shows : ShowsOffice plan words paths) (line : Line) (in_range : IsLine line) (dialled : ℕ) where
  -- a completing job goes on by the path of its line
  pub complete_runs : run words (complete_steps plan line dialled) ≡ run words (complete_from plan (party_of words line) dialled (path_of paths line))
  unfolding complete_steps
  complete_runs =
      run_bind words (approach line) _
      ∙ ap (λ (party : Party). run words (trace party >>= λ own. complete_from plan party dialled own)) (approach_runs words line)
      ∙ run_bind words (trace (party_of words line)) _
      ∙ ap (λ (own : Option Path). run words (complete_from plan (party_of words line) dialled own))
      (trace_runs words line ∙ traced_shown plan words paths line shows in_range)

module _ (plan : Tables) (words : List ℕ) (paths : List Path) (laws : IsLawful plan) (size : 453 ≤ length words) (shows : ShowsOffice plan words paths)
    (line : Line) (in_range : IsLine line) (dialled : ℕ) where
  abbrev calling : Party
  calling = party_of words line

  -- of a line that has a register
  module _ (own : Path) (within : IsIn own paths) (line_is : own.line ≡ line) (found : MemberPlace) (here : member_place plan own.place ≡ Some found)
      (register : found.group ≡ register_group plan) where
    abbrev leave : Leave
    leave = leave_of own None found

    abbrev gone : List Effect
    gone = leave_effects leave

    abbrev after : List ℕ
    after = perform_all (office plan) words gone

    abbrev rest : List Path
    rest = without_path paths own

    is_leave : IsLeave plan paths leave
    is_leave = register_leave plan paths own found laws within here register

    below : (effect : Effect) → turns.IsIn effect gone → effect_word effect < length words
    below effect among =
        omega (
          arith,
          opens_below own (shows.lawful.orderly.ranges own within) found.group found.index (member_place-numbers plan laws own.place found here).0 effect among,
          size,
        )

    rest_idle : is_idle (has_line line) rest ≡ true
    rest_idle = subst (λ (l : Line). is_idle (has_line l) rest ≡ true) line_is (line-without plan paths own shows.lawful within)

    -- on the words without the register the call is decided as on the set without its path
    rest_takes : TakesOn plan after (run after (call plan (party_after gone calling) dialled (route_of plan (code_of dialled))))
        (whole.call plan rest line dialled (route_of plan (code_of dialled)))
    rest_takes =
        call_takes plan after rest laws (omega (arith, size, perform_length (office plan) words gone))
        (leave_shows plan words paths leave laws size shows is_leave)
        (party_after gone calling) (party_after-tested plan words gone below calling (party_of-tested words line in_range)) rest_idle dialled

    without_runs : run words (call_without plan calling dialled leave)
        ≡ leaving leave (run after (call plan (party_after gone calling) dialled (route_of plan (code_of dialled))))
    unfolding run call_without ◌>>=◌
    without_runs =
        run_bind words (as_if_made gone (call plan (party_after gone calling) dialled (route_of plan (code_of dialled)))) _
        ∙ ap (leaving leave) (run_read_with words after (value_after gone) (call plan (party_after gone calling) dialled (route_of plan (code_of dialled)))
        (λ n. perform_index (office plan) words gone n below))

    without_decides : DecidesOn plan words (run words (call_without plan calling dialled leave))
        (whole.call plan rest line dialled (route_of plan (code_of dialled)))
    without_decides =
        subst (λ (decision : Decision). DecidesOn plan words decision (whole.call plan rest line dialled (route_of plan (code_of dialled)))) (sym without_runs)
        (leaving_decides plan words leave _ _ (leave_due plan words paths leave laws size shows is_leave) rest_takes)

  no_register : DecidesOn plan words (run words (complete_from plan calling dialled None)) (whole.complete_from plan paths line dialled None)
  unfolding run complete_from
  no_register = (refused_takes plan words paths laws size shows NoRegister).decides

  -- by the path of the line
  from_decides : (own : Path) → IsIn own paths → own.line ≡ line → (o : Option MemberPlace) → member_place plan own.place ≡ o
      → DecidesOn plan words (run words (call_from plan calling dialled own (option_and_then (if_register plan) o)))
      (whole.complete_from plan paths line dialled (if option_map_or (λ found. found.group == register_group plan) o false then Some own else None))
  unfolding run call_from
  from_decides own within line_is None here = (refused_takes plan words paths laws size shows NoRegister).decides
  from_decides own within line_is (Some found) here = at (found.group == register_group plan) refl where
    at : (b : Bool) → (found.group == register_group plan) ≡ b
        → DecidesOn plan words (run words (call_from plan calling dialled own (if b then Some found else None)))
        (whole.complete_from plan paths line dialled (if b then Some own else None))
    at false other = (refused_takes plan words paths laws size shows NoRegister).decides
    at true same = without_decides own within line_is found here (eqb-true found.group (register_group plan) same)

  path_decides : (o : Option Path) → path_of paths line ≡ o
      → DecidesOn plan words (run words (complete_from plan calling dialled o))
      (whole.complete_from plan paths line dialled (option_and_then (path_if_register plan) o))
  unfolding complete_from
  path_decides None is = no_register
  path_decides (Some own) is =
      let passes = found_passes (has_line line) paths own is in
      from_decides own passes.0 ((line_eq-exact own.line line).0 passes.1) (member_place plan own.place) refl

  -- a completing job decides as the one-marker office does
  pub complete_decides : DecidesOn plan words (run words (complete_steps plan line dialled)) (whole.complete plan paths line dialled)
  complete_decides =
      subst (λ (decision : Decision). DecidesOn plan words decision (whole.complete plan paths line dialled))
      (sym (complete_runs plan words paths shows line in_range dialled)) (path_decides (path_of paths line) refl)
