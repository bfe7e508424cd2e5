use Rattle.turns.proofs.PastTurn.{past_ends}
use Rattle.turns.proofs.laws.jobs_past_their_turns_end.Goals as goal

pub returns : goal.returns
returns g c = λ setting w k number turn a moves there at few.
    past_ends (g.F.Family.system setting) w k number turn a moves there at few
