use Rattle.desk_attempts.proofs.FirstFieldFits.{first_field_fits}
use Rattle.desk_attempts.proofs.speculation.SpeculationDebug.fmt.Goals as goal

pub derived_fields2-requires-room-A-Debug : goal.derived_fields2-requires-room-A-Debug
derived_fields2-requires-room-A-Debug g c κs within = search (first_field_fits)
