use Rattle.std.proofs.Common.{◌≡◌, List, map, sym, ap, subst, ◌∙◌}
use Rattle.{xbar_office.specs.declared.reply.Record.Record, xbar_fabric.specs.{Meetings.MarkerHasLearned, Views.{DeskView, entered, view_at}}}
use Rattle.xbar_fabric.proofs.{Meets.has_learned, Steps.{as_seen, seen_only}}
use Rattle.xbar_fabric.proofs.desk.Desk.learn.Goals as goal

pub returns-clause-learned : goal.returns-clause-learned
returns-clause-learned c =
    let plan = c.fabric.inside.plan.now in
    let desk = c.self.inside.desk in
    let kind = c.self.inside.kind in
    let after = c.learn.new.self in
    let noted = c.note.inside.note.seen in
    let setting : c.self.inside.desk.setting ≡ c.fabric.inside.plan.now =
    ap (λ d. d.plan) c.self.view_is ∙ c.requires.desk.plan_is ∙ sym (ap (λ f. f.plan) c.fabric.view_is) in
    subst (λ (l : List Record). MarkerHasLearned c.args.self.now l (view_at c.self.inside.kind c.learn.new.self)) (ap (λ n. n.seen) c.note.view_is)
    (as_seen (λ (old new : DeskView). MarkerHasLearned old (map entered noted) new) plan kind desk after c.args.self.now setting
    (seen_only desk after c.learn.ensures.same) c.self.view_is
    (has_learned plan desk.table kind desk.number desk.actor after.actor desk.seen noted after.seen c.learn.ensures.learned))
