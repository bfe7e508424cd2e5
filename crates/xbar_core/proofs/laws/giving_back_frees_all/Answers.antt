use Rattle.{xbar_moves.proofs.GivenBack.{frees_all, job_stays, others_stay, records_stay, words_stay}, xbar_core.proofs.BegunJobs.given_back_begins}
use Rattle.xbar_core.proofs.laws.giving_back_frees_all.Goals as goal

pub returns-clause-free : goal.returns-clause-free
returns-clause-free c = λ plan e k conn gives. frees_all plan e k conn gives

pub returns-clause-job : goal.returns-clause-job
returns-clause-job c = λ plan e k number a at. job_stays plan e k number a at

pub returns-clause-records : goal.returns-clause-records
returns-clause-records c = records_stay

pub returns-clause-others : goal.returns-clause-others
returns-clause-others c = λ plan e k j other. others_stay plan e k j other

pub returns-clause-words : goal.returns-clause-words
returns-clause-words c = λ plan e k n below. words_stay plan e k n below

pub returns-clause-begins : goal.returns-clause-begins
returns-clause-begins c = given_back_begins
