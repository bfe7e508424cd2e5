use Rattle.xbar_walk.proofs.ToldSteps.{AreTold}
use Rattle.xbar_walk.proofs.walk.StoryObserver.steps.Given as goal

abbrev pub invariant-loop-made : goal.invariant-loop-made
invariant-loop-made l = AreTold l.initial.office l.initial.self l.office l.self l.marker l.count l._made
