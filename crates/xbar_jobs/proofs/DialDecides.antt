-- jobs that join parties by some groups decide, on words that show a set, what the one-marker office does on the set
use Rattle.std.proofs.Common.{◌≡◌, ℕ, ◌≤◌, Bool, true, false, List, [], ◌∷◌, length, inl, inr, refl, sym, subst, Option, Some, None, if◌then◌else◌}
use Rattle.turns.specs.{Script.{◌>>=◌, run}, System.{DecidesAs, perform_all}}
use Rattle.xbar_equip.specs.{Among.IsIn, Len.{Line, IsLine}, Paths.{has_line, is_idle}, declared.path.Path.Path}
use Rattle.{xbar_plan.specs.{Tables.{Tables, register_group}, Lawful.IsLawful}, xbar_office.specs.Complete.{connect as office_connect, try_trunk as office_try}}
use Rattle.xbar_office.specs.{Dial.{dial, dial_register}, Done.{Done, tried as office_tried, refused as office_refused}, Members.{members_of, first_idle}}
use Rattle.xbar_office.specs.{Trunks.{idle_trunk, trunk_or}, TwoTrials.two_trials, declared.{aim.Aim.{Aim, TheVariants.{DialTone, Connected}}, reply.Card.Card}}
use Rattle.xbar_office.specs.declared.{reply.End.{End, TheVariants.LineBusy}, route.IdleTrunk.IdleTrunk, trial.{Choice.Choice, Trials.Trials}}
use Rattle.xbar_office.proofs.{CallJobs.idle_trunk-is, DialJobs.are_parties, GoodTrials.{AreParties, GoodChoice, good_trials}}
use Rattle.xbar_jobs.specs.{Closing.{refused, tried}, Connecting.{alone, busy_end, connect}, Jobs.{dial_steps, serve_idle_line}, Office.{ShowsOffice, office}}
use Rattle.xbar_jobs.specs.{Tracing.{approach, channel_of}, declared.{decision.Decision.Decision, party.{CallParties.CallParties, Party.Party}}}
use Rattle.xbar_jobs.proofs.{ConnectRuns.{connect_runs, decided_by}, LineChannels.{busy_channel, idle_channel}, TakenMembers.{take_due, take_shows}}
use Rattle.xbar_jobs.proofs.TestedParties.{AreTestedOn, TestedOn, lines_of_parties, party_of, party_of-tested}

-- a decision is that of a job done whole
abbrev pub DecidesOn : (plan : Tables) → List ℕ → Decision → Done → Type 0
DecidesOn plan words decision done = DecidesAs (office plan) words (record { state = done.paths; reply = done.reply }) decision

-- it is, and by it nothing is let go
pub record TakesOn (plan : Tables) (words : List ℕ) (decision : Decision) (done : Done) : Type 0 where
  pub decides : DecidesOn plan words decision done
  pub leaves : decision.leave ≡ None

-- what the one-marker office does with the trunk that it takes
abbrev pub done_by : Tables → List Path → Aim → CallParties → Option IdleTrunk → Done
done_by plan paths aim parties None = office_refused paths (busy_end aim)
done_by plan paths aim parties (Some trunk) =
    office_tried aim paths (two_trials plan paths (lines_of_parties parties) (members_of plan trunk.group) trunk.first)

module _ (plan : Tables) (words : List ℕ) (paths : List Path) (laws : IsLawful plan) (size : 453 ≤ length words) (shows : ShowsOffice plan words paths) where
  -- nothing is taken, and nothing changes
  pub refused_takes : (end : End) → TakesOn plan words (refused end) (office_refused paths end)
  unfolding perform_all
  refused_takes end = record { decides = record { reply = refl; shows = shows; due = tt }; leaves = refl }

  -- what trials chose is taken
  tried_takes : (aim : Aim) (group : ℕ) (trials : Trials) → GoodChoice plan paths group trials.choice
      → TakesOn plan words (tried aim group trials) (office_tried aim paths trials)
  unfolding perform_all
  tried_takes aim group trials good = by trials.choice trials.cards good where
    by : (choice : Option Choice) (cards : List Card) → GoodChoice plan paths group choice
        → TakesOn plan words (tried aim group (record { choice = choice; cards = cards })) (office_tried aim paths (record { choice = choice; cards = cards }))
    by None cards good = record { decides = record { reply = refl; shows = shows; due = tt }; leaves = refl }
    by (Some choice) cards good = record {
      decides = record {
        reply = refl;
        shows = take_shows plan words paths group choice.index choice.paths laws size shows good;
        due = take_due plan words paths group choice.index choice.paths laws size shows good;
      };
      leaves = refl;
    }

  module _ (parties : CallParties) (tested : AreTestedOn words parties) (groups : List ℕ)
      (are : (group : ℕ) → IsIn group groups → AreParties plan paths group (lines_of_parties parties)) where
    trunk_takes : (aim : Aim) (found : Option IdleTrunk) → idle_trunk plan paths groups ≡ found
        → TakesOn plan words (decided_by plan paths aim parties found) (done_by plan paths aim parties found)
    trunk_takes aim None is = refused_takes (busy_end aim)
    trunk_takes aim (Some trunk) is =
        let idle = idle_trunk-is plan paths groups trunk is in
        let lines = lines_of_parties parties in
        tried_takes aim trunk.group (two_trials plan paths lines (members_of plan trunk.group) trunk.first)
        (good_trials plan paths trunk.group lines laws (are trunk.group idle.within) trunk.first idle.idle)

    -- the parties are joined as the one-marker office joins their lines
    connecting_takes : (aim : Aim)
        → TakesOn plan words (run words (connect plan aim parties groups)) (done_by plan paths aim parties (idle_trunk plan paths groups))
    connecting_takes aim =
        subst (λ (decision : Decision). TakesOn plan words decision (done_by plan paths aim parties (idle_trunk plan paths groups)))
        (sym (connect_runs plan words paths laws size shows aim parties tested groups))
        (trunk_takes aim (idle_trunk plan paths groups) refl)

    call_done : (found : Option IdleTrunk) → done_by plan paths Connected parties found ≡ office_try plan paths (lines_of_parties parties) found
    call_done None = refl
    call_done (Some trunk) = refl

    -- so in a call
    pub connect_takes : TakesOn plan words (run words (connect plan Connected parties groups)) (office_connect plan paths (lines_of_parties parties) groups)
    connect_takes =
        subst (TakesOn plan words (run words (connect plan Connected parties groups))) (call_done (idle_trunk plan paths groups)) (connecting_takes Connected)

  module _ (line : Line) (in_range : IsLine line) where
    abbrev calling : Party
    calling = party_of words line

    tested : TestedOn words calling
    tested = party_of-tested words line in_range

    alone_tested : AreTestedOn words (alone calling)
    alone_tested = record { calling = tested; called = λ party is. absurd cc }

    registers_done : (first : Option ℕ)
        → done_by plan paths DialTone (alone calling) (trunk_or (register_group plan) first None)
        ≡ dial_register plan paths line (members_of plan (register_group plan)) first
    registers_done None = refl
    registers_done (Some first) = refl

    -- an idle line gets what the one-marker office gives it
    idle_line_takes : is_idle (has_line line) paths ≡ true
        → TakesOn plan words (run words (connect plan DialTone (alone calling) (register_group plan ∷ [])))
        (dial_register plan paths line (members_of plan (register_group plan)) (first_idle paths (members_of plan (register_group plan))))
    idle_line_takes idle =
        subst (TakesOn plan words (run words (connect plan DialTone (alone calling) (register_group plan ∷ []))))
        (registers_done (first_idle paths (members_of plan (register_group plan))))
        (connecting_takes (alone calling) alone_tested (register_group plan ∷ []) suits DialTone) where
          suits : (group : ℕ) → IsIn group (register_group plan ∷ []) → AreParties plan paths group (lines_of_parties (alone calling))
          suits group (inl same) =
              subst (λ (number : ℕ). AreParties plan paths number (lines_of_parties (alone calling))) (sym same)
              (are_parties plan paths line laws in_range idle)
          suits group (inr none) = absurd none

    -- so a dial tone job decides as the one-marker office does, and lets nothing go
    pub dial_takes : TakesOn plan words (run words (dial_steps plan line)) (dial plan paths line)
    unfolding run dial_steps serve_idle_line approach ◌>>=◌
    dial_takes = at (is_idle (has_line line) paths) refl where
      registers : Done
      registers = dial_register plan paths line (members_of plan (register_group plan)) (first_idle paths (members_of plan (register_group plan)))

      at : (b : Bool) → is_idle (has_line line) paths ≡ b
          → TakesOn plan words (run words (serve_idle_line plan calling (channel_of calling))) (if b then registers else office_refused paths LineBusy)
      at false busy =
          subst (λ (channel : Option ℕ). TakesOn plan words (run words (serve_idle_line plan calling channel)) (office_refused paths LineBusy))
          (sym (busy_channel plan words paths shows calling tested busy).1)
          (refused_takes LineBusy)
      at true idle =
          subst (λ (channel : Option ℕ). TakesOn plan words (run words (serve_idle_line plan calling channel)) registers)
          (sym (idle_channel plan words paths shows calling tested idle))
          (idle_line_takes idle)
