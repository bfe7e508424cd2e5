use Rattle.crossbar5.proofs.IdleOffices.{idle_replayed, idle_settled}
use Rattle.crossbar5.proofs.laws.a_look_at_idle_markers_shows_the_replay.Goals as goal

pub returns-clause-settled : goal.returns-clause-settled
returns-clause-settled c = λ plan e idle. idle_settled plan e idle

pub returns-clause-replayed : goal.returns-clause-replayed
returns-clause-replayed c = λ plan kinds rows e came idle. idle_replayed plan kinds rows e came idle
