use Rattle.std.proofs.Common.{sym, ◌∙◌, ap}
use Rattle.{xbar_moves.specs.{Exchange.OfPlan, Moves.steps}, xbar_walk.proofs.ToldSteps.steps_office}
use Rattle.xbar_walk.proofs.observer.UnobservedObserver.steps.Goals as goal

pub returns-clause-observed : goal.returns-clause-observed
returns-clause-observed c = λ w agrees. record {
  office_is =
      steps_office c.args.marker c.args.count w
      ∙ ap (λ (o : OfPlan). record o { exchange = steps o.plan c.args.marker c.args.count o.exchange }) agrees.office_is
      ∙ sym c.steps.ensures;
  described = tt;
}
