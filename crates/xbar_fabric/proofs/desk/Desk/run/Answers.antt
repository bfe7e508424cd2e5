use Rattle.std.proofs.Common.{◌≡◌, ◌<◌, ℕ, sym, ap, subst, ◌∙◌}
use Rattle.{turns.specs.Law.IsLegal, xbar_plan.specs.Tables.Tables, xbar_jobs.specs.Office.office, xbar_fabric.specs.{Advances.MarkerHasRun, Views.DeskView}}
use Rattle.xbar_fabric.proofs.{Running.{keeps_number, runs}, Steps.as_seen}
use Rattle.desks.specs.Desks as desks
use Rattle.xbar_fabric.proofs.desk.Desk.run.Goals as goal

pub invariant_of-self : goal.invariant_of-self
invariant_of-self g c =
    keeps_number c.fabric.inside.plan.now c.self.inside.desk.number c.run-made.result c.self.inside.desk.actor c.run-made.new.self.actor c.self.inside.desk.seen
    c.run-made.new.self.seen c.run-made.ensures.run.made c.self.invariant

pub returns-clause-run : goal.returns-clause-run
returns-clause-run g c =
    let plan = c.fabric.inside.plan.now in
    let kind = c.self.inside.kind in
    let desk = c.self.inside.desk in
    let after = c.run-made.new.self in
    let made : ℕ = c.run-made.result in
    let setting : c.self.inside.desk.setting ≡ c.fabric.inside.plan.now =
    ap (λ d. d.plan) c.self.view_is ∙ c.requires.plan_is ∙ sym (ap (λ f. f.plan) c.fabric.view_is) in
    let still : c.run-made.new.self.setting ≡ c.fabric.inside.plan.now = ap (λ d. d.setting) c.run-made.ensures.run.same ∙ setting in
    let legal = subst (λ (p : Tables). IsLegal (office p) 0 (office p).opening after.seen) still c.number-number.ensures.legal in
    let ends =
    subst (λ (k : ℕ). 0 < made → desks.HasEndedIn (office plan) after.seen k after.actor) (ap (λ d. d.number) c.run-made.ensures.run.same)
    c.run-made.ensures.run.ended in
    as_seen (λ (old new : DeskView). MarkerHasRun c.run-made.result old new) plan kind desk after c.args.self.now setting c.run-made.ensures.run.same
    c.self.view_is
    (runs plan desk.table kind desk.number made desk.actor after.actor desk.seen after.seen c.fabric.invariant.2 legal ends c.run-made.ensures.run.made)
