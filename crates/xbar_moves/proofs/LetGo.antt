-- what each job's decision lets go: nothing, or paths of the set that the job takes out
use Rattle.std.proofs.Common.{◌≡◌, ◌≢◌, ◌≤◌, ℕ, length, Bool, true, false, List, refl, sym, ◌∙◌, ap, subst, Option, Some, None, ◌==◌, option_and_then}
use Rattle.std.proofs.Common.{if◌then◌else◌}
use Rattle.{std.specs.Option.option_map_or, turns.{specs.Script.{◌>>=◌, run}, proofs.Walks.run_bind}, xbar_equip.specs.{Among.IsIn, Dialled.code_of}}
use Rattle.xbar_equip.{specs.{Len.{Line, IsLine}, Paths.{has_line, without_path}, declared.path.Path.Path}, proofs.{Lists.found_passes, PathSets.without-in}}
use Rattle.xbar_plan.specs.{Lawful.IsLawful, Tables.{Tables, member_place, register_group, route_of}, declared.group.MemberPlace.MemberPlace}
use Rattle.xbar_office.specs.{Legal.IsJob, Release.{release, release_from, without_other}, Standing.{if_register as path_if_register, path_of, register_path}}
use Rattle.xbar_office.{specs.{Whole.whole, declared.job.Job.{Job, TheVariants.{Dial, Complete, Release}}}, proofs.EndsOfJobs.left_in}
use Rattle.xbar_jobs.specs.{Closing.{leave_effects, leave_of}, Completing.{call, call_from, call_without, complete_from, complete_steps, if_register}}
use Rattle.xbar_jobs.specs.{Jobs.script, Office.ShowsOffice, Releasing.release_steps, Script.as_if_made, Sides.party_after, declared.decision.Decision.Decision}
use Rattle.xbar_jobs.{specs.declared.{decision.Leave.Leave, party.Party.Party}, proofs.{CompleteDecides.complete_runs, DialDecides.dial_takes}}
use Rattle.xbar_jobs.proofs.{FreedMembers.other_stays, LeaveEffects.IsLeave, ReleaseDecides.{ComesTo, HasNone, LetsGo as CallGoes, release_comes}}
use Rattle.{xbar_jobs.proofs.TestedParties.party_of, xbar_moves.proofs.TrunkPaths.register_gone}

-- a path of the set, which the job takes out
pub record IsGone (plan : Tables) (paths : List Path) (job : Job) (path : Path) : Type 0 where
  pub there : IsIn path paths
  pub gone : ¬ IsIn path (whole plan paths job).paths

-- both paths of a call that is let go are
pub record AreGone (plan : Tables) (paths : List Path) (job : Job) (leave : Leave) : Type 0 where
  pub own : IsGone plan paths job leave.own
  pub other : (path : Path) → leave.other ≡ Some path → IsGone plan paths job path

-- what a decision lets go
pub data LetsGo (plan : Tables) (paths : List Path) (job : Job) (decision : Decision) : Type 0 where
  Nothing : decision.leave ≡ None → LetsGo plan paths job decision
  Paths : (leave : Leave) → decision.leave ≡ Some leave → AreGone plan paths job leave → LetsGo plan paths job decision

module _ (plan : Tables) (words : List ℕ) where
  -- once its register is let go, a completing job lets no more go
  without_leaves : (calling : Party) (dialled : ℕ) (leave : Leave) → (run words (call_without plan calling dialled leave)).leave ≡ Some leave
  unfolding run call_without ◌>>=◌
  without_leaves calling dialled leave =
      ap (λ (d : Decision). d.leave) (run_bind words (as_if_made (leave_effects leave)
      (call plan (party_after (leave_effects leave) calling) dialled (route_of plan (code_of dialled)))) _)

module _ (plan : Tables) (words : List ℕ) (paths : List Path) (laws : IsLawful plan) (shows : ShowsOffice plan words paths) (line : Line)
    (in_range : IsLine line) where
  -- a completing job lets its line's register go, if it has one
  module _ (dialled : ℕ) where
    abbrev calling : Party
    calling = party_of words line

    by_group : (own : Path) → path_of paths line ≡ Some own → (found : MemberPlace) → member_place plan own.place ≡ Some found → (register : Bool)
        → (found.group == register_group plan) ≡ register
        → LetsGo plan paths (Complete line dialled) (run words (call_from plan calling dialled own (if register then Some found else None)))
    unfolding run call_from
    by_group own is found here false other = Nothing refl
    by_group own is found here true same =
        let ends : path_if_register plan own ≡ Some own =
        ap (λ (o : Option MemberPlace). if option_map_or (λ member. member.group == register_group plan) o false then Some own else None) here
        ∙ ap (λ (b : Bool). if b then Some own else None) same in
        let register : register_path plan paths line ≡ Some own = ap (option_and_then (path_if_register plan)) is ∙ ends in
        Paths (leave_of own None found) (without_leaves plan words calling dialled (leave_of own None found)) (record {
          own = record {
            there = (found_passes (has_line line) paths own is).0;
            gone = register_gone plan laws paths line dialled own shows.lawful in_range register;
          };
          other = λ path goes. absurd cc;
        })

    by_member : (own : Path) → path_of paths line ≡ Some own → (found : Option MemberPlace) → member_place plan own.place ≡ found
        → LetsGo plan paths (Complete line dialled) (run words (call_from plan calling dialled own (option_and_then (if_register plan) found)))
    unfolding run call_from
    by_member own is None here = Nothing refl
    by_member own is (Some found) here = by_group own is found here (found.group == register_group plan) refl

    by_path : (own : Option Path) → path_of paths line ≡ own → LetsGo plan paths (Complete line dialled) (run words (complete_from plan calling dialled own))
    unfolding run complete_from
    by_path None is = Nothing refl
    by_path (Some own) is = by_member own is (member_place plan own.place) refl

    complete_lets_go : LetsGo plan paths (Complete line dialled) (run words (complete_steps plan line dialled))
    complete_lets_go =
        subst (LetsGo plan paths (Complete line dialled)) (sym (complete_runs plan words paths shows line in_range dialled)) (by_path (path_of paths line) refl)

  -- a release lets its line's call go, if it has one
  call_gone : (leave : Leave) → path_of paths line ≡ Some leave.own → IsLeave plan paths leave → AreGone plan paths (Release line) leave
  call_gone leave path is = record {
    own = record { there = is.within; gone = λ within. (stays leave.own within).1 refl };
    other = λ other goes.
        let there = other_stays plan paths leave.own is.found laws shows.lawful is.within is.here other (sym is.other ∙ goes) in
        record { there = (without-in paths leave.own other shows.lawful.orderly.set there).0; gone = λ within. (stays other within).2 goes };
  } where
    rest : (release plan paths line).paths ≡ without_other (without_path paths leave.own) leave.other
    rest = ap (λ (own : Option Path). (release_from plan paths own).paths) path ∙ ap (without_other (without_path paths leave.own)) (sym is.other)

    stays : (q : Path) → IsIn q (release plan paths line).paths → IsIn q paths × (q ≢ leave.own) × (leave.other ≢ Some q)
    stays q within = (left_in paths leave.own leave.other shows.lawful.orderly.set q).0 (subst (λ (all : List Path). IsIn q all) rest within)

  release_lets_go : LetsGo plan paths (Release line) (run words (release_steps plan line))
  release_lets_go = by (release_comes plan words paths laws shows line in_range) where
    by : ComesTo plan paths line (run words (release_steps plan line)) → LetsGo plan paths (Release line) (run words (release_steps plan line))
    by (HasNone none comes) = Nothing (ap (λ (d : Decision). d.leave) comes)
    by (CallGoes leave path is comes) = Paths leave (ap (λ (d : Decision). d.leave) comes) (call_gone leave path is)

-- what a job's decision lets go, on words that show a set
pub job_lets_go : (plan : Tables) (words : List ℕ) (paths : List Path) (job : Job) → IsLawful plan → 453 ≤ length words → ShowsOffice plan words paths
    → IsJob job → LetsGo plan paths job (run words (script plan job))
unfolding script
job_lets_go plan words paths (Dial line) laws size shows in_range = Nothing (dial_takes plan words paths laws size shows line in_range).leaves
job_lets_go plan words paths (Complete line dialled) laws size shows in_range = complete_lets_go plan words paths laws shows line in_range.0 dialled
job_lets_go plan words paths (Release line) laws size shows in_range = release_lets_go plan words paths laws shows line in_range
