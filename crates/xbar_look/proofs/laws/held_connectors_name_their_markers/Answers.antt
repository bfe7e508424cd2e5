use Rattle.xbar_look.proofs.JobsTold.{held_names, requests_name}
use Rattle.xbar_look.proofs.laws.held_connectors_name_their_markers.Goals as goal

pub returns-clause-held : goal.returns-clause-held
returns-clause-held c = λ plan e k m conn lawful range there. held_names plan e lawful k m conn range there

pub returns-clause-requested : goal.returns-clause-requested
returns-clause-requested c = λ plan e k m conn lawful range there few. requests_name plan e lawful k m conn range there few
