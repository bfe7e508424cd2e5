use Rattle.std.proofs.Common.{ℕ, List, [], ◌∷◌, ◌++◌, ap, bit_or, subst, sym, ◌∙◌}
use Rattle.{turns.{specs.{Script.value_read, Seen.AreReadWords, declared.reading.Reading.Reading}, proofs.Words.read_more}, attempts.specs.Marks.AreMarked}
use Rattle.attempts.proofs.{Marked.marked_more, ReadOnce.once_more}
use Rattle.attempts.proofs.readings.Readings.push.Goals as goal

pub invariant_of-self : goal.invariant_of-self
invariant_of-self g c =
    let last : Reading ℕ = record { word = c.args.word; value = c.args.value } in
    let marks : ℕ = bit_or c.self.inside.marks c.mark_of.result in (
      once_more _ _ last c.push.ensures.items c.self.invariant.0
          (ap (λ (readings : List (Reading ℕ)). value_read readings c.args.word) c.self.view_is ∙ c.requires.unread),
      subst (λ (readings : List (Reading ℕ)). AreReadWords readings) (sym c.push.ensures.items) (read_more _ last c.self.invariant.1 c.ranges.value.fits),
      subst (λ (readings : List (Reading ℕ)). AreMarked readings marks) (sym c.push.ensures.items)
          (subst (λ (mark : ℕ). AreMarked (c.self.inside.items.items ++ last ∷ []) (bit_or c.self.inside.marks mark)) (sym c.mark_of.ensures)
          (marked_more _ c.self.inside.marks last c.self.invariant.2)),
    )
