use Rattle.attempts.proofs.Inside.{same_count}
use Rattle.attempts.proofs.attempt.Attempt.count.Goals as goal

pub returns : goal.returns
returns g c = same_count _ c.args.self.now c.self.view_is
