use Rattle.std.proofs.Common.{◌≡◌, ℕ, sym, ap, subst, ◌∙◌, IfSome}
use Rattle.{turns.specs.Law.IsLegal, xbar_plan.specs.Tables.Tables, xbar_jobs.specs.Office.office, xbar_fabric.specs.{Advances.IsAnswered, Views.DeskView}}
use Rattle.xbar_fabric.proofs.{GoneOn.has_answered, Steps.as_seen}
use Rattle.desks.specs.Desks as desks
use Rattle.xbar_fabric.proofs.desk.Desk.step.Goals as goal

pub returns-clause-answered : goal.returns-clause-answered
returns-clause-answered c =
    let plan = c.fabric.inside.plan.now in
    let kind = c.self.inside.kind in
    let desk = c.self.inside.desk in
    let after = c.step.new.self in
    let setting : c.self.inside.desk.setting ≡ c.fabric.inside.plan.now =
    ap (λ d. d.plan) c.self.view_is ∙ c.requires.plan_is ∙ sym (ap (λ f. f.plan) c.fabric.view_is) in
    let still : c.step.new.self.setting ≡ c.fabric.inside.plan.now = ap (λ d. d.setting) c.step.ensures.same ∙ setting in
    let legal = subst (λ (p : Tables). IsLegal (office p) 0 (office p).opening after.seen) still c.step.ensures.legal in
    let ends =
    subst (λ (k : ℕ). IfSome c.step.result (λ answer. desks.HasEndedIn (office plan) after.seen k after.actor))
    (ap (λ d. d.number) c.step.ensures.same) c.step.ensures.ended in
    as_seen (λ (old new : DeskView). IsAnswered old new c.step.result) plan kind desk after c.args.self.now setting c.step.ensures.same
    c.self.view_is
    (has_answered plan desk.table kind desk.number desk.actor after.actor desk.seen after.seen c.fabric.invariant.2 legal _
    (λ same. (ap (λ d. d.actor) same, ap (λ d. d.seen) same)) c.step.result c.step.ensures.none c.step.ensures.stepped ends)
