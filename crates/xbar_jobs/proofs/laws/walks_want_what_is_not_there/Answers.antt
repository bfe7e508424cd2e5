use Rattle.xbar_jobs.proofs.Wanting.{wants_free, wants_unread}
use Rattle.xbar_jobs.proofs.laws.walks_want_what_is_not_there.Goals as goal

pub returns-clause-conn : goal.returns-clause-conn
returns-clause-conn c = λ seen script conn wants. wants_free seen conn script wants

pub returns-clause-word : goal.returns-clause-word
returns-clause-word c = λ seen script word wants. wants_unread seen word script wants
