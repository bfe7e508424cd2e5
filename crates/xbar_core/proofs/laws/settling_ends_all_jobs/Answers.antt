use Rattle.xbar_core.proofs.{SettledOffices.{office_settles, settled_idle, settles_so}, Stages.one_settles}
use Rattle.xbar_core.proofs.laws.settling_ends_all_jobs.Goals as goal

pub returns-clause-settles : goal.returns-clause-settles
returns-clause-settles c = λ plan e laws lawful. office_settles plan laws e lawful

pub returns-clause-idle : goal.returns-clause-idle
returns-clause-idle c = λ plan e k m laws lawful there. settled_idle plan laws e lawful k m there

pub returns-clause-one : goal.returns-clause-one
returns-clause-one c = λ plan e other settles laws lawful. settles_so plan laws e other settles lawful

pub returns-clause-same : goal.returns-clause-same
returns-clause-same c = one_settles
