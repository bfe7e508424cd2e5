use Rattle.std.proofs.Common.{sym, ◌∙◌, ap, subst, slice_get}
use Rattle.{xbar_core.specs.Ends.Settles, xbar_plan.specs.Lawful.IsLawful, xbar_moves.specs.Exchange.OfPlan}
use Rattle.xbar_walk.proofs.Settlings.{settled_is, settling_seen}
use Rattle.xbar_walk.proofs.settling.settle.Goals as goal

pub returns-clause-settled : goal.returns-clause-settled
returns-clause-settled g c = settled_is c.args.office.now _ _ _ c.in_ok-each.ensures.office c.in_ok-each-2.ensures.office c.in_ok-each-3.ensures.office

pub returns-clause-settles : goal.returns-clause-settles
returns-clause-settles g c =
    let first = c.args.office.now in
    let is = settled_is first _ _ _ c.in_ok-each.ensures.office c.in_ok-each-2.ensures.office c.in_ok-each-3.ensures.office in
    subst (λ (o : OfPlan). Settles first.plan first.exchange o.exchange) (sym is)
    (c.settling_ends_all_jobs.ensures.settles first.plan first.exchange (subst IsLawful c.plan.ensures c.every_plan_is_lawful.ensures) c.words.ensures.lawful)

pub returns-clause-idle : goal.returns-clause-idle
returns-clause-idle g c = λ k m there.
    let first = c.args.office.now in
    let is = settled_is first _ _ _ c.in_ok-each.ensures.office c.in_ok-each-2.ensures.office c.in_ok-each-3.ensures.office in
    c.settling_ends_all_jobs.ensures.idle first.plan first.exchange k m (subst IsLawful c.plan.ensures c.every_plan_is_lawful.ensures) c.words.ensures.lawful
    (ap (λ (o : OfPlan). slice_get o.exchange.markers k) (sym is) ∙ there)

pub returns-clause-observed : goal.returns-clause-observed
returns-clause-observed g c =
    settling_seen c.args.office.now _ _ _ c.in_ok-each.ensures.office c.in_ok-each-2.ensures.office c.in_ok-each-3.ensures.office
    g.O.Observer.Describes _ _ _ _ _ c.in_ok-settles.ensures.adds c.in_ok-each.ensures.observed c.in_ok-each-2.ensures.observed c.in_ok-each-3.ensures.observed
