use Rattle.desk_attempts.proofs.FirstFieldFits.{first_field_fits}
use Rattle.desk_attempts.proofs.jobs.words_under_seized.Goals as goal

pub phase-phase-requires : goal.phase-phase-requires
phase-phase-requires g c = search (first_field_fits)
