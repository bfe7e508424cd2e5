use Rattle.xbar_jobs.proofs.ReleasedWords.{a_release_opens_just_its_call}
use Rattle.xbar_jobs.proofs.laws.a_release_opens_just_its_call.Goals as goal

pub returns : goal.returns
returns c = a_release_opens_just_its_call
