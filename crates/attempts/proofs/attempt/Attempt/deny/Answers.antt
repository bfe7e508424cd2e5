use Rattle.attempts.proofs.attempt.Attempt.deny.Goals as goal

pub clear_readings-requires : goal.clear_readings-requires
clear_readings-requires g c = search
