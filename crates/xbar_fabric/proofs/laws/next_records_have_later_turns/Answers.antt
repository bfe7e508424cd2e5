use Rattle.xbar_fabric.proofs.LaterTurns.{turn_is_later}
use Rattle.xbar_fabric.proofs.laws.next_records_have_later_turns.Goals as goal

pub returns : goal.returns
returns c = record { later = turn_is_later }
