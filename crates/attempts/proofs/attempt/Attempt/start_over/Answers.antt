use Rattle.std.proofs.Common.{ap}
use Rattle.attempts.{specs.WalkOnWords.WalkState, proofs.Inside.begins_anew}
use Rattle.attempts.proofs.attempt.Attempt.start_over.Goals as goal

pub clear_readings-requires : goal.clear_readings-requires
clear_readings-requires g c = search

pub returns : goal.returns
returns g c =
    begins_anew _ c.args.self.now c.clear_readings.new.self c.clear_locks.new.self.seen.held c.args.first c.args.point c.self.view_is
    (ap (λ (state : WalkState _). state.seen.held) c.clear_locks.ensures) c.clear_readings.ensures
