use Rattle.std.proofs.Common.{◌≡◌, sym, ap, ◌∙◌}
use Rattle.xbar_fabric.{specs.{Meetings.MarkersHaveMet, Views.{DeskView, view_at}}, proofs.{Meets.have_met, Steps.{as_seen, desk_at, seen_only}}}
use Rattle.xbar_fabric.proofs.meeting.meet.Goals as goal

pub returns-clause-met : goal.returns-clause-met
returns-clause-met c =
    let plan = c.fabric.inside.plan.now in
    let a = c.one.inside in
    let b = c.other.inside in
    let a' = c.meet.new.one in
    let b' = c.meet.new.other in
    let one_setting : c.one.inside.desk.setting ≡ c.fabric.inside.plan.now =
    ap (λ d. d.plan) c.one.view_is ∙ c.requires.one.plan_is ∙ sym (ap (λ f. f.plan) c.fabric.view_is) in
    let other_setting : c.other.inside.desk.setting ≡ c.fabric.inside.plan.now =
    ap (λ d. d.plan) c.other.view_is ∙ c.requires.other.plan_is ∙ sym (ap (λ f. f.plan) c.fabric.view_is) in
    as_seen (λ (old new : DeskView). MarkersHaveMet old c.args.other.now new (view_at b.kind b')) plan a.kind a.desk a' c.args.one.now one_setting
    (seen_only a.desk a' c.meet.ensures.one) c.one.view_is
    (as_seen (λ (old new : DeskView). MarkersHaveMet (desk_at a.desk.table plan a.kind a.desk.number a.desk.actor a.desk.seen) old
    (desk_at a.desk.table plan a.kind a.desk.number a'.actor a'.seen) new)
    plan b.kind b.desk b' c.args.other.now other_setting (seen_only b.desk b' c.meet.ensures.other) c.other.view_is
    (have_met plan a.desk.table b.desk.table a.kind b.kind a.desk.number b.desk.number a.desk.actor b.desk.actor a'.actor b'.actor a.desk.seen b.desk.seen
    a'.seen b'.seen c.meet.ensures.met))
