use Rattle.attempts.proofs.Inside.{is_new}
use Rattle.attempts.proofs.attempt.Attempt.new.Goals as goal

pub returns : goal.returns
returns g c = is_new c.args.job c.args.point c.args.first _ c.new.ensures
