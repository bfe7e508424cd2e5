use Rattle.turns.proofs.Preferring.{preferring_is, preferring_shows}
use Rattle.turns.proofs.laws.preferring_is_a_sharing.Goals as goal

pub returns-clause-sharing : goal.returns-clause-sharing
returns-clause-sharing c = preferring_is

pub returns-clause-requests : goal.returns-clause-requests
returns-clause-requests c = preferring_shows
