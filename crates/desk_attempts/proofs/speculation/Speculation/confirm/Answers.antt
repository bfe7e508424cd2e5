use Rattle.std.proofs.Common.{◌≡◌, ◌-◌, ◌≤◌, ℕ, List, ap, arith, drop, length, length-drop, subst, sym, ◌∙◌, Option, Some}
use Rattle.{turns.specs.declared.reading.Reading.Reading, desk_attempts.{specs.Speculation.{predicted_of, predictions}, proofs.FirstFieldFits.first_field_fits}}
use Rattle.desk_attempts.proofs.speculation.Speculation.confirm.Goals as goal

pub count_steps-requires : goal.count_steps-requires
count_steps-requires g c = search (first_field_fits)

pub counts-readings-requires : goal.counts-readings-requires
counts-readings-requires g c = search (first_field_fits)

-- of `total` readings, those that are not validated are the predictions
left_over : (made before total : ℕ) (validated : Option ℕ) (readings : List (Reading ℕ)) → validated ≡ Some before
    → made ≤ length (predicted_of validated readings) → total ≡ length readings → made ≤ total - before
left_over made before total validated readings is few all =
    let left : made ≤ length (drop before readings) = subst (λ (v : Option ℕ). made ≤ length (predicted_of v readings)) is few in
    omega (arith, left, all, length-drop before readings)

pub made_with-requires : goal.made_with-requires
made_with-requires g c =
    left_over c.args.made c.in-Some.before c.counts-readings.result.0 c.self.inside.validated c.self.inside.predicted.readings c.in-Some.is
    (subst (λ (n : ℕ). c.args.made ≤ n) (ap (λ p. length (predictions p)) (sym c.self.view_is)) c.requires)
    (c.counts-readings.ensures.readings ∙ ap (λ a. length a.readings) c.count_steps.ensures)
