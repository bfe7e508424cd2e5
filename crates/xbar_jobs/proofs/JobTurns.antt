-- what an attempt does past its turn is what the one-marker office does
use Rattle.std.proofs.Common.{◌≡◌, ℕ, ◌<◌, ◌^◌, List, [], ◌∷◌, sym, ◌∙◌, ap, subst, refl, arith, Some}
use Rattle.turns.specs.{Attempt.{HasDecided, IsAnswerTo, IsValidIn, act, act_in, change, changed, closing_act, free_act, seen_of}, Script.run}
use Rattle.turns.specs.{System.{AreDue, AreUnder, perform_all}, declared.answer.Answer.{Answer, TheVariants.Turn}}
use Rattle.turns.specs.declared.phase.Phase.TheVariants.{Requests, Seizes, Tests, Turns, Withdraws, GivesBack, Operates}
use Rattle.{turns.proofs.{Keeping.HasReadWords, Walks.{read_value, walk_run}}, xbar_equip.specs.{Conn.conn_eq, declared.conn.Conn.Conn}}
use Rattle.{xbar_plan.specs.{Tables.Tables, Lawful.IsLawful}, xbar_office.specs.{Legal.IsJob, Whole.whole}, xbar_jobs.specs.Attempt.{Attempt, Phase}}
use Rattle.xbar_jobs.specs.{Jobs.script, Office.{ShowsOffice, office}, Turning.DoesAsOffice, declared.{decision.Decision.Decision, effect.Effect.Effect}}
use Rattle.xbar_jobs.proofs.{Covered.decided_under, DialDecides.DecidesOn, OfficeSystem.script_decides, ShownWords.shown_below}

-- an attempt that has decided does as the one-marker office does
pub decided_does : (plan : Tables) (a : Attempt) → IsLawful plan → IsJob a.job → HasDecided (office plan) a → DoesAsOffice plan a
decided_does plan a laws in_range valid words paths size shows read =
    let decision = valid.decision in
    let ends : run words (script plan a.job) ≡ decision = walk_run conn_eq words (seen_of a) (script plan a.job) decision read valid.come in
    let decides =
    subst (λ (d : Decision). DecidesOn plan words d (whole plan paths a.job)) ends (script_decides plan words paths a.job laws (omega arith) shows in_range) in
    let same = sym valid.effects in
    let fits : HasReadWords (office plan) (seen_of a) = λ word value under is.
    subst (λ (n : ℕ). n < 2 ^ 64) (read_value words a.readings word value read is)
    (shown_below plan laws paths words shows under.lock word under.protects) in
    record {
      reply = valid.reply ∙ ap Some decides.reply;
      shows = subst (λ (all : List Effect). ShowsOffice plan (perform_all (office plan) words all) (whole plan paths a.job).paths) same decides.shows;
      due = subst (λ (all : List Effect). AreDue (office plan) words all) same decides.due;
      under =
          subst (λ (all : List Effect). AreUnder (office plan) a.held all) same (decided_under plan (seen_of a) a.job decision laws in_range fits valid.come);
    }

no_turn_of_free : (held : List Conn) (number : ℕ) → IsAnswerTo {Effect = Effect} (free_act held) (Turn number) → ⊥
no_turn_of_free [] number fits = fits
no_turn_of_free (conn ∷ held) number fits = fits

no_turn_past : (effects : List Effect) (held : List Conn) (number : ℕ) → IsAnswerTo (closing_act effects held) (Turn number) → ⊥
no_turn_past [] held number fits = no_turn_of_free held number fits
no_turn_past (effect ∷ effects) held number fits = fits

-- only an attempt that is to turn is answered with a turn
turns : (plan : Tables) (a : Attempt) (phase : Phase) (number : ℕ) → a.phase ≡ phase → IsAnswerTo (act_in phase a) (Turn number)
    → IsValidIn (office plan) a phase → (a.phase ≡ Turns) × HasDecided (office plan) a
turns plan a (Requests conn) number is fits valid = absurd fits
turns plan a (Seizes conn expected) number is fits valid = absurd fits
turns plan a (Tests word) number is fits valid = absurd fits
turns plan a Turns number is fits valid = (is, valid)
turns plan a (Withdraws conn) number is fits valid = absurd fits
turns plan a GivesBack number is fits valid = absurd (no_turn_of_free a.held number fits)
turns plan a (Operates turn) number is fits valid = absurd (no_turn_past a.effects a.held number fits)

past_turn : (plan : Tables) (a : Attempt) (number : ℕ) → DoesAsOffice plan a → DoesAsOffice plan (record a { phase = Operates number })
past_turn plan a number does words paths size shows read =
    let done = does words paths size shows read in
    record { reply = done.reply; shows = done.shows; due = done.due; under = done.under }

-- with its turn an attempt does as the one-marker office does
pub turn_does : (plan : Tables) (a : Attempt) (answer : Answer) (number : ℕ) → IsLawful plan → IsJob a.job → IsAnswerTo (act a) answer
    → IsValidIn (office plan) a a.phase → answer ≡ Turn number → DoesAsOffice plan (change (office plan) a answer)
turn_does plan a answer number laws in_range fits valid is =
    let turned : IsAnswerTo (act a) (Turn number) = subst (λ (told : Answer). IsAnswerTo (act a) told) is fits in
    let at = turns plan a a.phase number refl turned valid in
    subst (λ (told : Answer). DoesAsOffice plan (change (office plan) a told)) (sym is)
    (subst (λ (phase : Phase). DoesAsOffice plan (changed (office plan) a phase (Turn number))) (sym at.0)
    (past_turn plan a number (decided_does plan a laws in_range at.1)))
