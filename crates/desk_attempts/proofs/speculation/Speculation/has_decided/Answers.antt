use Rattle.desk_attempts.proofs.FirstFieldFits.{first_field_fits}
use Rattle.desk_attempts.proofs.speculation.Speculation.has_decided.Goals as goal

pub has_decided-requires : goal.has_decided-requires
has_decided-requires g c = search (first_field_fits)
