use Rattle.xbar_office.proofs.EndsOfJobs.{leaves_others, names_its_path}
use Rattle.xbar_office.proofs.laws.a_release_leaves_all_other_paths.Goals as goal

pub returns-clause-others : goal.returns-clause-others
returns-clause-others c = λ plan paths line own other lawful is path. leaves_others plan paths line own other lawful is path

pub returns-clause-own : goal.returns-clause-own
returns-clause-own c = λ plan paths line own other is. names_its_path plan paths line own other is
