use Rattle.std.proofs.Common.{sym, ◌∙◌, ap}
use Rattle.{xbar_moves.{specs.{Exchange.{Exchange, OfPlan}, Moves.given_at}, proofs.Backing.back_rests}, xbar_walk.specs.Walks.walk_of_give_back}
use Rattle.xbar_walk.proofs.{Observing.stays_same, Settlings.{restarted_within, gave_back, given_none, sees_back}}
use Rattle.xbar_walk.proofs.settling.give_back.Goals as goal

pub returns-in_default-clause-office : goal.returns-in_default-clause-office
returns-in_default-clause-office g c =
    let o = c.args.office.now in
    ap (λ (x : Exchange). record o { exchange = x })
    (sym (back_rests o.plan o.exchange c.args.marker (λ gives. c.in_default.not-Given (c.given.ensures ∙ gives))))

pub returns-in_default-clause-observed : goal.returns-in_default-clause-observed
returns-in_default-clause-observed g c =
    let k = c.args.marker in
    stays_same g.O.Observer.Describes c.args.office.now _ (walk_of_give_back k)
    (λ w is. given_none k w (λ gives. c.in_default.not-Given (c.given.ensures ∙ ap (λ (o : OfPlan). given_at o.exchange k) (sym is) ∙ gives)))

pub steps-requires : goal.steps-requires
steps-requires g c = restarted_within c.args.office.now c.restart.new.self c.args.marker (sym c.in-Given.ensures) c.restart.ensures c.requires

pub returns-clause-office : goal.returns-clause-office
returns-clause-office g c =
    gave_back c.args.office.now c.restart.new.self c.args.marker (sym c.in-Given.ensures) c.restart.ensures _ c.frees_left-left.ensures _ c.in_ok-steps.ensures.office

pub returns-clause-observed : goal.returns-clause-observed
returns-clause-observed g c =
    sees_back c.args.office.now c.restart.new.self c.args.marker (sym c.in-Given.ensures) c.restart.ensures _ c.frees_left-left.ensures g.O.Observer.Describes
    _ _ _ c.in_ok-steps.ensures.observed
