use Rattle.xbar_walk.proofs.Storytelling.{ends}
use Rattle.xbar_walk.proofs.story.Story.finish.Goals as goal

pub returns : goal.returns
returns c = ends c.args.self _ c.args.self.joined c.in_ok-end_tests.ensures.observed
