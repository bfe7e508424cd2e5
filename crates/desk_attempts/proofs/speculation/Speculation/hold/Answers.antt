use Rattle.std.proofs.Common.{◌<◌, ℕ, ap, length, subst, sym}
use Rattle.desk_attempts.proofs.FirstFieldFits.{first_field_fits}
use Rattle.desk_attempts.proofs.speculation.Speculation.hold.Goals as goal

pub hold-requires : goal.hold-requires
hold-requires g c = (search (first_field_fits), subst (λ (n : ℕ). n < g.row.HELD) (ap (λ a. length a.predicted.held) (sym c.self.view_is)) c.requires)

pub count_steps-requires : goal.count_steps-requires
count_steps-requires g c = search (first_field_fits)
