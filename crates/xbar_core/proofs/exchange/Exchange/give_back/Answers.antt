use Rattle.std.proofs.Common.{ℕ, sym, ◌∙◌, ap}
use Rattle.xbar_moves.{specs.{Exchange.{Exchange, OfPlan}, Moves.{restarted_at, steps}}, proofs.Backing.{back_goes, back_rests}}
use Rattle.xbar_core.proofs.exchange.Exchange.give_back.Goals as goal

pub returns-in-Given-clause-back : goal.returns-in-Given-clause-back
returns-in-Given-clause-back c =
    let plan = c.args.self.now.plan in
    let e = c.args.self.now.exchange in
    let k = c.args.marker in
    c.steps.ensures
    ∙ ap (λ (o : OfPlan). record { plan = o.plan; exchange = steps o.plan k c.frees_left-left.result o.exchange }) c.restart.ensures
    ∙ ap (λ (count : ℕ). record { plan = plan; exchange = steps plan k count (restarted_at plan k e) }) c.frees_left-left.ensures
    ∙ ap (λ (x : Exchange). record { plan = plan; exchange = x }) (sym (back_goes plan e k (sym c.in-Given.ensures)))

pub returns-in_default-clause-back : goal.returns-in_default-clause-back
returns-in_default-clause-back c =
    let plan = c.args.self.now.plan in
    ap (λ (x : Exchange). record { plan = plan; exchange = x })
    (sym (back_rests plan c.args.self.now.exchange c.args.marker (λ gives. c.in_default.not-Given (c.given-given.ensures ∙ gives))))
