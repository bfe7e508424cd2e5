-- a call is decided, on words that show a set, as the one-marker office decides it on the set
use Rattle.std.proofs.Common.{◌≡◌, ℕ, ◌≤◌, Bool, true, false, List, [], ◌∷◌, length, inl, inr, refl, sym, ◌∙◌, ap, subst, Option, Some, None, ◌&&◌, not}
use Rattle.std.proofs.Common.{option_map, if◌then◌else◌}
use Rattle.{turns.{specs.Script.run, proofs.Walks.run_bind}, xbar_equip.specs.{Among.IsIn, Dialled.{code_of, number_of}, Len.{Line, IsLine, line_eq}}}
use Rattle.xbar_equip.{specs.{Paths.{has_line, is_idle}, declared.path.Path.Path}, proofs.Lists.found_passes}
use Rattle.{xbar_plan.specs.{Tables.{Tables, lines_of, route_of}, Lawful.IsLawful}, xbar_office.specs.Trunks.{called_line, leads_inside}}
use Rattle.xbar_office.{specs.declared.reply.End.TheVariants.{CalledBusy, VacantCode, VacantNumber}, proofs.CallJobs.{called_are, leads_out, lines_range}}
use Rattle.{xbar_office.proofs.CallJobs.outgoing_are, xbar_jobs.specs.Completing.{call, call_by, call_line, call_number, hunt, unless_busy, unless_calling}}
use Rattle.xbar_jobs.specs.{Connecting.alone, Office.ShowsOffice, Script.Script, Tracing.{approach, channel_of}, declared.decision.Decision.Decision}
use Rattle.xbar_jobs.{specs.declared.party.Party.Party, proofs.{DialDecides.{TakesOn, connect_takes, refused_takes}, LineChannels.{busy_channel, idle_channel}}}
use Rattle.xbar_jobs.proofs.{TestedParties.{AreTestedOn, TestedOn, party_of, party_of-tested}, TracedRuns.approach_runs}
use Rattle.xbar_office.specs.Complete as whole

module _ (plan : Tables) (words : List ℕ) (paths : List Path) (laws : IsLawful plan) (size : 453 ≤ length words) (shows : ShowsOffice plan words paths) where
  -- a line that is approached is passed over if it is in a path
  busy_or_idle : (line : Line) (next : Script (Option Party)) → IsLine line → (b : Bool) → is_idle (has_line line) paths ≡ b
      → run words (unless_busy (party_of words line) next (channel_of (party_of words line))) ≡ (if b then Some (party_of words line) else run words next)
  unfolding run unless_busy
  busy_or_idle line next range true idle =
      ap (λ (channel : Option ℕ). run words (unless_busy (party_of words line) next channel))
      (idle_channel plan words paths shows (party_of words line) (party_of-tested words line range) idle)
  busy_or_idle line next range false busy =
      ap (λ (channel : Option ℕ). run words (unless_busy (party_of words line) next channel))
      (busy_channel plan words paths shows (party_of words line) (party_of-tested words line range) busy).1

  -- the hunt comes to the line that the one-marker office calls
  hunt_runs : (calling : Line) (lines : List Line) → ((line : Line) → IsIn line lines → IsLine line)
      → run words (hunt calling lines) ≡ option_map (party_of words) (called_line paths calling lines)
  unfolding run hunt unless_calling
  hunt_runs calling [] ranges = refl
  hunt_runs calling (line ∷ lines) ranges =
      at (line_eq line calling) (is_idle (has_line line) paths) refl (hunt_runs calling lines (λ other within. ranges other (inr within))) where
        at : (own idle : Bool) → is_idle (has_line line) paths ≡ idle
            → run words (hunt calling lines) ≡ option_map (party_of words) (called_line paths calling lines)
            → run words (unless_calling line (hunt calling lines) own)
            ≡ option_map (party_of words) (if not own && idle then Some line else called_line paths calling lines)
        at true idle is later = later
        at false true is later =
            run_bind words (approach line) _
            ∙ ap (λ (party : Party). run words (unless_busy party (hunt calling lines) (channel_of party))) (approach_runs words line)
            ∙ busy_or_idle line (hunt calling lines) (ranges line (inl refl)) true is
        at false false is later =
            run_bind words (approach line) _
            ∙ ap (λ (party : Party). run words (unless_busy party (hunt calling lines) (channel_of party))) (approach_runs words line)
            ∙ busy_or_idle line (hunt calling lines) (ranges line (inl refl)) false is ∙ later

  module _ (calling : Party) (tested : TestedOn words calling) (idle : is_idle (has_line calling.line) paths ≡ true) where
    both_tested : (called : Line) → IsLine called → AreTestedOn words (record { calling = calling; called = Some (party_of words called) })
    both_tested called range = record {
      calling = tested;
      called = λ party is. let same : party_of words called ≡ party = cc in subst (TestedOn words) same (party_of-tested words called range);
    }

    line_takes : (groups : List ℕ) → leads_inside plan groups ≡ true → (lines : List Line) → ((line : Line) → IsIn line lines → IsLine line)
        → (found : Option Line) → called_line paths calling.line lines ≡ found
        → TakesOn plan words (run words (call_line plan calling groups (option_map (party_of words) found)))
        (whole.call_line plan paths calling.line groups found)
    unfolding run call_line
    line_takes groups inside lines ranges None is = refused_takes plan words paths laws size shows CalledBusy
    line_takes groups inside lines ranges (Some called) is =
        connect_takes plan words paths laws size shows (record { calling = calling; called = Some (party_of words called) })
        (both_tested called (ranges called (found_passes (λ line. not (line_eq line calling.line) && is_idle (has_line line) paths) lines called is).0)) groups
        (called_are plan paths calling.line laws tested.line idle groups inside lines ranges called is)

    number_takes : (groups : List ℕ) → leads_inside plan groups ≡ true → (number : ℕ) (found : Option (List Line)) → lines_of plan number ≡ found
        → TakesOn plan words (run words (call_number plan calling groups found)) (whole.call_number plan paths calling.line groups found)
    unfolding run call_number
    number_takes groups inside number None is = refused_takes plan words paths laws size shows VacantNumber
    number_takes groups inside number (Some lines) is =
        let ranges = lines_range plan laws number lines is in
        subst (λ (decision : Decision). TakesOn plan words decision (whole.call_number plan paths calling.line groups (Some lines)))
        (sym (run_bind words (hunt calling.line lines) _
        ∙ ap (λ (found : Option Party). run words (call_line plan calling groups found)) (hunt_runs calling.line lines ranges)))
        (line_takes groups inside lines ranges (called_line paths calling.line lines) refl)

    route_takes : (dialled code : ℕ) (groups : List ℕ) → route_of plan code ≡ Some groups → (b : Bool) → leads_inside plan groups ≡ b
        → TakesOn plan words (run words (call_by plan calling dialled groups b))
        (if b then whole.call_number plan paths calling.line groups (lines_of plan (number_of dialled)) else whole.connect plan paths
        (record { calling = calling.line; called = None }) groups)
    unfolding call_by
    route_takes dialled code groups found true inside = number_takes groups inside (number_of dialled) (lines_of plan (number_of dialled)) refl
    route_takes dialled code groups found false outside =
        connect_takes plan words paths laws size shows (alone calling) (record { calling = tested; called = λ party is. absurd cc }) groups
        (outgoing_are plan paths calling.line laws tested.line idle groups (leads_out plan laws code groups found outside))

    -- a call takes what the one-marker office takes for it, and lets nothing go
    pub call_takes : (dialled : ℕ)
        → TakesOn plan words (run words (call plan calling dialled (route_of plan (code_of dialled))))
        (whole.call plan paths calling.line dialled (route_of plan (code_of dialled)))
    unfolding run call
    call_takes dialled = at (route_of plan (code_of dialled)) refl where
      at : (found : Option (List ℕ)) → route_of plan (code_of dialled) ≡ found
          → TakesOn plan words (run words (call plan calling dialled found)) (whole.call plan paths calling.line dialled found)
      at None found = refused_takes plan words paths laws size shows VacantCode
      at (Some groups) found = route_takes dialled (code_of dialled) groups found (leads_inside plan groups) refl
