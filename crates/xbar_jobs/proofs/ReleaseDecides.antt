-- a release decides, on words that show a set, what the one-marker office does on the set
use Rattle.std.proofs.Common.{◌≡◌, ℕ, ◌≤◌, List, length, refl, sym, ◌∙◌, ap, subst, Option, Some, None, option_and_then, append-nil}
use Rattle.turns.{specs.{Script.{◌>>=◌, run}, System.{AreDue, DecidesAs, perform_all}}, proofs.Walks.run_bind}
use Rattle.xbar_equip.{specs.{Len.{Line, IsLine}, Paths.has_line, Ten.{TrunkPlace, IsTrunkPlace}, declared.path.Path.Path}, proofs.Lists.found_passes}
use Rattle.xbar_plan.{specs.{Tables.{Tables, member_place}, Lawful.IsLawful, declared.group.MemberPlace.MemberPlace}, proofs.MemberPlaces.member_place-other}
use Rattle.xbar_office.specs.{Done.Done, Release.{release, release_from as office_release_from, release_paths}, Standing.{path_of, path_at, other_path}}
use Rattle.{xbar_office.{specs.declared.reply.End.TheVariants.NoCall, proofs.ReleaseJobs.named_at}, xbar_jobs.specs.Closing.{effects, leave_effects, leave_of}}
use Rattle.xbar_jobs.specs.{Closing.{refused, released}, Office.{ShowsOffice, office}, Releasing.{release_from, release_member, release_steps, trace_other}}
use Rattle.xbar_jobs.specs.{Tracing.{approach, trace}, declared.{decision.{Decision.Decision, Leave.Leave}, effect.Effect.Effect}}
use Rattle.xbar_jobs.proofs.{LeaveEffects.{IsLeave, left, leave_shows, leave_due}, TracedRuns.{trace_runs, trace_back_runs, traced_shown, traced_back_shown}}

-- what a release comes to: a line that has no path has no call, and of another one its call is let go
pub data ComesTo (plan : Tables) (paths : List Path) (line : Line) (decision : Decision) : Type 0 where
  HasNone : path_of paths line ≡ None → decision ≡ refused NoCall → ComesTo plan paths line decision
  LetsGo : (leave : Leave) → path_of paths line ≡ Some leave.own → IsLeave plan paths leave → decision ≡ released leave → ComesTo plan paths line decision

module _ (plan : Tables) (words : List ℕ) (paths : List Path) (laws : IsLawful plan) (shows : ShowsOffice plan words paths) where
  -- the other party's path is found, if the plan has another place beside the own one
  other_runs : (place : Option TrunkPlace) → ((beside : TrunkPlace) → place ≡ Some beside → IsTrunkPlace beside)
      → run words (trace_other place) ≡ option_and_then (path_at paths) place
  unfolding run trace_other
  other_runs None range = refl
  other_runs (Some place) range = trace_back_runs words place ∙ traced_back_shown plan words paths place shows (range place refl)

  member_runs : (own : Path) (found : MemberPlace) → member_place plan own.place ≡ Some found
      → run words (release_member own (Some found)) ≡ released (leave_of own (other_path plan paths own) found)
  unfolding run release_member ◌>>=◌
  member_runs own found here =
      run_bind words (trace_other found.other) _
      ∙ ap (λ (other : Option Path). released (leave_of own other found))
      (
      other_runs found.other (λ beside is. member_place-other plan laws own.place beside found here is)
      ∙ sym (ap (λ (o : Option MemberPlace). option_and_then (path_at paths) (option_and_then (λ member. member.other) o)) here)
      )

  module _ (line : Line) (in_range : IsLine line) where
    -- the line's trace finds its path in the set
    path_runs : run words (release_steps plan line) ≡ run words (release_from plan (path_of paths line))
    unfolding run release_steps approach ◌>>=◌
    path_runs =
        run_bind words (trace _) _
        ∙ ap (λ (own : Option Path). run words (release_from plan own)) (trace_runs words line ∙ traced_shown plan words paths line shows in_range)

    -- so a release comes to what the set says of the line
    pub release_comes : ComesTo plan paths line (run words (release_steps plan line))
    unfolding run release_from release_member
    release_comes = by (path_of paths line) refl where
      by : (found : Option Path) → path_of paths line ≡ found → ComesTo plan paths line (run words (release_steps plan line))
      by None e = HasNone e (path_runs ∙ ap (λ (own : Option Path). run words (release_from plan own)) e)
      by (Some own) e =
          let within = (found_passes (has_line line) paths own e).0 in
          let at = named_at plan own.place (shows.lawful.orderly.places own within) in
          LetsGo (leave_of own (other_path plan paths own) at.found) e
          (record { within = within; found = at.found; here = at.here; group = refl; index = refl; other = refl })
          (
          path_runs
          ∙ ap (λ (o : Option Path). run words (release_from plan o)) e
          ∙ ap (λ (o : Option MemberPlace). run words (release_member own o)) at.here
          ∙ member_runs own at.found at.here
          )

-- letting a call go is all that is made then
pub released_effects : (leave : Leave) → effects (released leave) ≡ leave_effects leave
released_effects leave = append-nil (leave_effects leave)

module _ (plan : Tables) (words : List ℕ) (paths : List Path) (laws : IsLawful plan) (long : 453 ≤ length words) (shows : ShowsOffice plan words paths) where
  abbrev Decides : Decision → Done → Type 0
  Decides decision done = DecidesAs (office plan) words (record { state = done.paths; reply = done.reply }) decision

  none_decides : Decides (refused NoCall) (office_release_from plan paths None)
  unfolding perform_all
  none_decides = record { reply = refl; shows = shows; due = tt }

  let_go_decides : (leave : Leave) → IsLeave plan paths leave → Decides (released leave) (release_paths paths leave.own leave.other)
  let_go_decides leave is =
      let same = sym (released_effects leave) in
      record {
        reply = refl;
        shows =
            subst (λ (all : List Effect). ShowsOffice plan (perform_all (office plan) words all) (left paths leave)) same
            (leave_shows plan words paths leave laws long shows is);
        due = subst (λ (all : List Effect). AreDue (office plan) words all) same (leave_due plan words paths leave laws long shows is);
      }

  -- so a release decides as the one-marker office does
  pub release_decides : (line : Line) → IsLine line
      → DecidesAs (office plan) words (record { state = (release plan paths line).paths; reply = (release plan paths line).reply })
      (run words (release_steps plan line))
  release_decides line in_range = by (release_comes plan words paths laws shows line in_range) where
    by : ComesTo plan paths line (run words (release_steps plan line)) → Decides (run words (release_steps plan line)) (release plan paths line)
    by (HasNone e d) =
        subst (λ (decision : Decision). Decides decision (release plan paths line)) (sym d)
        (subst (λ (found : Option Path). Decides (refused NoCall) (office_release_from plan paths found)) (sym e) none_decides)
    by (LetsGo leave e is d) =
        subst (λ (decision : Decision). Decides decision (release plan paths line)) (sym d)
        (
        subst (λ (found : Option Path). Decides (released leave) (office_release_from plan paths found)) (sym e)
        (subst (λ (other : Option Path). Decides (released leave) (release_paths paths leave.own other)) is.other (let_go_decides leave is))
        )
