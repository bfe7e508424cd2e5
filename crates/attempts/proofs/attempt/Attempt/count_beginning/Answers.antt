use Rattle.attempts.proofs.attempt.Attempt.count_beginning.Goals as goal

pub is_fresh-requires : goal.is_fresh-requires
is_fresh-requires g c = search
