use Rattle.std.proofs.Common.{◌≡◌, ◌<◌, ◌⊎◌, ◌+◌, [], ◌∷◌, ℕ, List, false, length, inl, inr, refl, sym, ap, subst, arith, ◌==◌, Some, None, eqb-true}
use Rattle.xbar_report.specs.{Draft.{tally_lines, stage_behind}, Line.AtPaths, declared.line.{Counts.Counts, Line.Line, TroubleLine.TroubleLine}}
use Rattle.xbar_report.specs.declared.reading.Tally.{Tally, TheVariants.{Missing, Begun, Whole}}
use Rattle.xbar_report.proofs.Stray.{IsReadSoFar, line_more, stray_read, stray_unread, stray_end, read_all}
use Rattle.xbar_report.proofs.reading.read_lines.Goals.{in_default-tally-via-in-Missing+else-is_empty, in_default-tally-via-in-Whole+else-is_empty-2}
use Rattle.xbar_report.proofs.reading.read_lines.Goals.{in_default-tally-via-in_default-tally}
use Rattle.xbar_report.proofs.reading.read_lines.Goals as goal

pub returns-in_default-2-clause-fault : goal.returns-in_default-2-clause-fault
returns-in_default-2-clause-fault c =
    stray_unread c.args.text.now c.loop-line.rest.now c.in-Some.line.now c.in-Some.behind.now c.loop-line.number
    c.loop-line.draft.records.items c.loop-line.draft.cards.items c.loop-line.draft.tally
    c.loop-line.invariant c.in-Some.ensures.line.1 c.in-Some.ensures.line.0 (rw c.in_default-2.is at c.in_ok-line.ensures)

pub returns-then-not-branch-clause-fault : goal.returns-then-not-branch-clause-fault
returns-then-not-branch-clause-fault c =
    stray_read c.args.text.now c.loop-line.rest.now c.in-Some.line.now c.in-Some.behind.now c.loop-line.number
    c.loop-line.draft.records.items c.loop-line.draft.cards.items c.loop-line.draft.tally c.in-Some-2.line
    c.loop-line.invariant c.in-Some.ensures.line.1 c.in-Some.ensures.line.0 (rw c.in-Some-2.is at c.in_ok-line.ensures)
    (rw c.if-not-branch.true at c.in_ok-add.ensures)

pub loop-line-preserved : goal.loop-line-preserved
loop-line-preserved c =
    let added = rw c.if-not-branch.false at c.in_ok-add.ensures in
    subst (λ (ls : List Line). IsReadSoFar c.args.text.now c.in-Some.behind.now (c.loop-line.number + 1) ls) (sym added)
    (line_more c.args.text.now c.loop-line.rest.now c.in-Some.line.now c.in-Some.behind.now c.loop-line.number _ c.in-Some-2.line
    c.loop-line.invariant c.in-Some.ensures.line.1 c.in-Some.ensures.line.0 (rw c.in-Some-2.is at c.in_ok-line.ensures))

pub returns-in-Missing-clause-lines : goal.returns-in-Missing-clause-lines
returns-in-Missing-clause-lines c =
    read_all c.args.text.now c.loop-line.rest.now c.loop-line.number c.loop-line.draft.records.items c.loop-line.draft.cards.items None c.loop-line.draft.tally
    c.loop-line.invariant (eqb-true (length c.loop-line.rest.now) 0 (sym c.if-is_empty.ensures)) (ap tally_lines c.in-Missing.is)

pub returns-in-Whole-clause-lines : goal.returns-in-Whole-clause-lines
returns-in-Whole-clause-lines c =
    read_all c.args.text.now c.loop-line.rest.now c.loop-line.number c.loop-line.draft.records.items c.loop-line.draft.cards.items (Some c.in-Whole.counts)
    c.loop-line.draft.tally
    c.loop-line.invariant (eqb-true (length c.loop-line.rest.now) 0 (sym c.if-is_empty-2.ensures)) (ap tally_lines c.in-Whole.is)

some_left : (rest : List ℕ) → false ≡ (length rest == 0) → 0 < length rest
some_left [] e = cc
some_left (x ∷ rest) e = omega arith

between : (tally : Tally) (cards : List TroubleLine) → (tally ≡ Missing → ⊥) → ((counts : Counts) → tally ≡ Whole counts → ⊥)
    → stage_behind tally cards ≡ AtPaths
between Missing cards a b = absurd (a refl)
between (Begun paths) cards a b = refl
between (Whole counts) cards a b = absurd (b counts refl)

pub returns-in_default-tally-clause-fault : goal.returns-in_default-tally-clause-fault
returns-in_default-tally-clause-fault c =
    let why : (0 < length c.loop-line.rest.now) ⊎ (stage_behind c.loop-line.draft.tally c.loop-line.draft.cards.items ≡ AtPaths) =
    elim c.in_default-tally.branch [
      | in_default-tally-via-in-Missing+else-is_empty w ↦ inl (some_left c.loop-line.rest.now w.if-is_empty.ensures)
      | in_default-tally-via-in-Whole+else-is_empty-2 w ↦ inl (some_left c.loop-line.rest.now w.if-is_empty-2.ensures)
      | in_default-tally-via-in_default-tally w ↦ inr (between c.loop-line.draft.tally c.loop-line.draft.cards.items w.in_default-tally.not-Missing
          w.in_default-tally.not-Whole)
    ] in
    stray_end c.args.text.now c.loop-line.rest.now c.loop-line.number c.loop-line.draft.records.items c.loop-line.draft.cards.items c.loop-line.draft.tally
    c.loop-line.invariant c.in_default.ensures.none why
