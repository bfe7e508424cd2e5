-- whether a line is in a path of a set, by its word in words that show the set
use Rattle.std.proofs.Common.{◌≡◌, ℕ, true, false, List, sym, ◌∙◌, ap, subst, Some, None, find, true≢false}
use Rattle.xbar_equip.specs.{Len.Line, Paths.{has_line, is_idle}, Word.LineSwitch, declared.path.Path.Path}
use Rattle.{xbar_equip.proofs.PathTests.{idle-none, none-idle, line_eq-exact}, xbar_switch.specs.declared.shape.Shape.TheVariants.{Line as LineShape}}
use Rattle.xbar_match.{specs.{Switches.word_of, Traces.field_at_place}, proofs.TracedPaths.{Found, One, NoOne, find-found, line_field-none, line_field-path}}
use Rattle.{xbar_plan.specs.Tables.Tables, xbar_jobs.specs.{Office.ShowsOffice, Tracing.channel_of, declared.party.Party.Party}}
use Rattle.xbar_jobs.proofs.TestedParties.{TestedOn}

module _ (plan : Tables) (words : List ℕ) (paths : List Path) (shows : ShowsOffice plan words paths) (party : Party) (tested : TestedOn words party) where
  by_word : channel_of party ≡ field_at_place LineShape (word_of words (LineSwitch party.line.frame party.line.switch)) party.line.x
  by_word = ap (λ (word : ℕ). field_at_place LineShape word party.line.x) tested.word

  -- an idle line has no channel
  pub idle_channel : is_idle (has_line party.line) paths ≡ true → channel_of party ≡ None
  idle_channel idle =
      by_word ∙ line_field-none words paths party.line shows.switches shows.lawful.orderly.ranges tested.line (none-idle (has_line party.line) paths idle)

  -- and a line with a path has that path's
  pub busy_channel : is_idle (has_line party.line) paths ≡ false → (channel : ℕ) × (channel_of party ≡ Some channel)
  busy_channel busy = of (find-found (has_line party.line) paths) where
    of : Found (has_line party.line) paths (find (has_line party.line) paths) → (channel : ℕ) × (channel_of party ≡ Some channel)
    of (One path within passes found) =
        let same : path.line ≡ party.line = (line_eq-exact path.line party.line).0 passes in
        let field = line_field-path words paths path shows.switches shows.lawful.orderly.ranges shows.lawful.orderly.apart within in (
          path.channel,
          by_word ∙ subst (λ (l : Line). field_at_place LineShape (word_of words (LineSwitch l.frame l.switch)) l.x ≡ Some path.channel) same field,
        )
    of (NoOne none found) = absurd (true≢false (sym (idle-none (has_line party.line) paths none) ∙ busy))
