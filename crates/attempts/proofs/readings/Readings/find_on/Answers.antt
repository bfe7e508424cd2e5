use Rattle.std.proofs.Common.{arith, ap, length, ◌∙◌}
use Rattle.attempts.proofs.readings.Readings.find_on.Goals as goal

pub overflow_add-place : goal.overflow_add-place
overflow_add-place g c =
    let same = ap length (c.as_slice-items.ensures.value ∙ c.self.view_is) in
    omega (arith, same, c.as_slice-items.ensures.fits, c.in_ok-found.ensures.bound)
