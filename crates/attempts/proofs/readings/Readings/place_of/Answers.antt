use Rattle.std.proofs.Common.{◌≡◌, ℕ, List, ap, subst, sym, ◌∙◌, option_and_then, option_map, slice_get}
use Rattle.{turns.specs.{Script.value_read, declared.reading.Reading.Reading}, attempts.proofs.ReadOnce.read_there}
use Rattle.attempts.proofs.readings.Readings.place_of.Goals as goal

pub returns-then-has_mark-clause-place : goal.returns-then-has_mark-clause-place
returns-then-has_mark-clause-place g c =
    subst (λ (readings : List (Reading ℕ)). value_read readings c.args.word
    ≡ option_and_then (λ place. option_map (λ (r : Reading ℕ). r.value) (slice_get readings place)) c.place_in.result)
    (c.as_slice.ensures.value ∙ c.self.view_is)
    (read_there c.as_slice.result.now c.args.word
    ∙ ap (option_and_then (λ place. option_map (λ (r : Reading ℕ). r.value) (slice_get c.as_slice.result.now place))) (sym c.place_in.ensures.place))
