use Rattle.attempts.proofs.attempt.Attempt.continue_with.Goals as goal

pub decide-requires : goal.decide-requires
decide-requires g c = search

pub want-requires : goal.want-requires
want-requires g c = search
