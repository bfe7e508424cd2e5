use Rattle.std.proofs.Common.{◌≡◌, sym, ap, ◌∙◌}
use Rattle.{xbar_moves.specs.Moves.given_by, xbar_fabric.{specs.Advances.MarkerHasGivenBack, proofs.{GivenBack.gives_back, Steps.as_seen}}}
use Rattle.xbar_moves.specs.declared.event.Given.TheVariants as given
use Rattle.xbar_fabric.proofs.desk.Desk.give_back.Goals as goal

pub returns-in-Given-clause-back : goal.returns-in-Given-clause-back
returns-in-Given-clause-back c gives =
    let plan = c.fabric.inside.plan.now in
    let desk = c.self.inside.desk in
    let kind = c.self.inside.kind in
    let after = c.give_back.new.self in
    let setting : c.self.inside.desk.setting ≡ c.fabric.inside.plan.now =
    ap (λ d. d.plan) c.self.view_is ∙ c.requires.plan_is ∙ sym (ap (λ f. f.plan) c.fabric.view_is) in
    let asked : given_by c.self.inside.desk.actor ≡ given.Given = ap (λ d. given_by d.work) c.self.view_is ∙ sym c.given-given.ensures ∙ gives in
    as_seen MarkerHasGivenBack plan kind desk after c.args.self.now setting c.give_back.ensures.same c.self.view_is
    (gives_back plan desk.table kind desk.number desk.actor after.actor desk.seen after.seen asked c.give_back.ensures.given_back)
