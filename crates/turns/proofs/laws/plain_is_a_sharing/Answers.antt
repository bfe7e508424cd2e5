use Rattle.turns.proofs.Plain.{plain_is}
use Rattle.turns.proofs.laws.plain_is_a_sharing.Goals as goal

pub returns : goal.returns
returns c = plain_is
