use Rattle.std.proofs.Common.{ℕ, List, subst, sym}
use Rattle.{turns.specs.{Seen.AreReadWords, declared.reading.Reading.Reading}, attempts.specs.{Marks.AreMarked, Points.HaveOneValue}}
use Rattle.attempts.proofs.TakenBack.{marked_first, once_first, words_first}
use Rattle.attempts.proofs.readings.Readings.keep.Goals as goal

pub invariant_of-self : goal.invariant_of-self
invariant_of-self g c =
    let kept = sym c.truncate.ensures.items in (
      subst (λ (l : List (Reading ℕ)). HaveOneValue l) kept (once_first c.args.kept _ c.self.invariant.0),
      subst (λ (l : List (Reading ℕ)). AreReadWords l) kept (words_first c.args.kept _ c.self.invariant.1),
      subst (λ (l : List (Reading ℕ)). AreMarked l c.self.inside.marks) kept (marked_first c.args.kept _ _ c.self.invariant.2),
    )
