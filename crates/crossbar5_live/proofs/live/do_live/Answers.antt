use Rattle.{crossbar5.{specs.PlanRefusal.plan_in, proofs.PlanRefusals.refused_input}, crossbar5_live.specs.Live.IsLiveUnder}
use Rattle.crossbar5_live.proofs.live.do_live.Goals as goal

pub returns-in-Refused-clause-live : goal.returns-in-Refused-clause-live
returns-in-Refused-clause-live g c =
    refused_input (λ tables. IsLiveUnder tables c.args.markers.now.dialling c.args.markers.now.completing) (g.R.Read.remaining c.args.source.now)
    (plan_in c.args.plan) c.in_ok-plan.field-0 c.in-Refused.written c.in-Refused.is c.in_ok-plan.ensures.input
