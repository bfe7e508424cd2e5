use Rattle.desk_attempts.proofs.FirstFieldFits.{first_field_fits}
use Rattle.desk_attempts.proofs.now.apply_past_turn_now.Goals as goal

pub apply_past_turn-requires : goal.apply_past_turn-requires
apply_past_turn-requires g c = search (first_field_fits)
