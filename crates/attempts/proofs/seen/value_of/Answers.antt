use Rattle.std.proofs.Common.{ℕ, List, ap, subst, sym, ◌∙◌}
use Rattle.{turns.specs.{Script.value_read, declared.reading.Reading.Reading}, attempts.{specs.Points.HaveOneValue, proofs.ReadOnce.read_at_place}}
use Rattle.attempts.proofs.seen.value_of.Goals as goal

pub returns-then-reading-word : goal.returns-then-reading-word
returns-then-reading-word g c =
    let once = subst (λ (items : List (Reading ℕ)). HaveOneValue items) (sym c.as_slice-items.ensures.value) c.as_slice-items.ensures.once in
    read_at_place c.as_slice-items.result.now c.args.place.now c.args.word _ once c.if-at-items.true c.if-reading-word.true
    ∙ ap (λ (items : List (Reading ℕ)). value_read items c.args.word) c.as_slice-items.ensures.value
