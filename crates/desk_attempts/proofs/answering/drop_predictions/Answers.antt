use Rattle.desk_attempts.proofs.FirstFieldFits.{first_field_fits}
use Rattle.desk_attempts.proofs.answering.drop_predictions.Goals as goal

pub job-requires : goal.job-requires
job-requires g c = search (first_field_fits)

pub keep_readings-requires : goal.keep_readings-requires
keep_readings-requires g c = search (first_field_fits)

pub test_next-requires : goal.test_next-requires
test_next-requires g c = search (first_field_fits)
