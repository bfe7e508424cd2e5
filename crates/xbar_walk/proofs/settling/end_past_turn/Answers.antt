use Rattle.std.proofs.Common.{Bool, true, false, sym, ◌∙◌, ap, if◌then◌else◌}
use Rattle.{xbar_moves.specs.Exchange.{Exchange, OfPlan}, xbar_walk.specs.Walks.{is_past_turn_in, walk_of_end, walk_of_end_past_turn}}
use Rattle.xbar_walk.proofs.{Observing.{changes_same, stays_same}, Settlings.past_ended, ToldSteps.past_is}
use Rattle.xbar_walk.proofs.settling.end_past_turn.Goals as goal

pub returns-then-is_past_turn-clause-office : goal.returns-then-is_past_turn-clause-office
returns-then-is_past_turn-clause-office g c =
    let o = c.args.office.now in
    c.in_ok-steps.ensures.office
    ∙ ap (λ (x : Exchange). record o { exchange = x })
    (sym (past_ended o.plan c.args.marker o.exchange true (past_is o.exchange c.args.marker c.requires true c.if-is_past_turn.ensures)))

pub returns-then-is_past_turn-clause-observed : goal.returns-then-is_past_turn-clause-observed
returns-then-is_past_turn-clause-observed g c =
    let o = c.args.office.now in
    let k = c.args.marker in
    changes_same g.O.Observer.Describes o _ _ _ (walk_of_end_past_turn k) (walk_of_end k)
    (λ w is. ap (λ (past : Bool). if past then walk_of_end k w else w)
    (sym (ap (λ (x : OfPlan). is_past_turn_in x.exchange k) is ∙ past_is o.exchange k c.requires true c.if-is_past_turn.ensures)))
    c.in_ok-steps.ensures.observed

pub returns-clause-office : goal.returns-clause-office
returns-clause-office g c =
    let o = c.args.office.now in
    ap (λ (x : Exchange). record o { exchange = x })
    (sym (past_ended o.plan c.args.marker o.exchange false (past_is o.exchange c.args.marker c.requires false c.if-is_past_turn.ensures)))

pub returns-clause-observed : goal.returns-clause-observed
returns-clause-observed g c =
    let o = c.args.office.now in
    let k = c.args.marker in
    stays_same g.O.Observer.Describes o _ (walk_of_end_past_turn k)
    (λ w is. ap (λ (past : Bool). if past then walk_of_end k w else w)
    (ap (λ (x : OfPlan). is_past_turn_in x.exchange k) is ∙ past_is o.exchange k c.requires false c.if-is_past_turn.ensures))
