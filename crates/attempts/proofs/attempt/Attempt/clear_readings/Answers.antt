use Rattle.attempts.proofs.Inside.{forgets}
use Rattle.attempts.proofs.attempt.Attempt.clear_readings.Goals as goal

pub returns : goal.returns
returns g c = forgets _ c.args.self.now _ _ _ c.self.view_is c.clear_readings.ensures
