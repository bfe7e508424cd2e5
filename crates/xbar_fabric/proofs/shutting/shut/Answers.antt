use Rattle.std.proofs.Common.{◌≡◌, ℕ, refl, sym, ap, subst, ◌∙◌}
use Rattle.{xbar_jobs.specs.Office.office, xbar_fabric.{specs.{Meetings.FabricIsShut, Views.DeskView}, proofs.{Meets.is_shut, Steps.as_seen}}}
use Rattle.desks.specs.Met as desks
use Rattle.xbar_fabric.proofs.shutting.shut.Goals as goal

pub returns-in-Ok : goal.returns-in-Ok
returns-in-Ok c =
    let plan = c.fabric.inside.plan.now in
    let desk = c.desk.inside.desk in
    let kind = c.desk.inside.kind in
    let words = c.in-Ok.words.items in
    let setting : c.desk.inside.desk.setting ≡ c.fabric.inside.plan.now =
    ap (λ d. d.plan) c.desk.view_is ∙ c.requires.plan_is ∙ sym (ap (λ f. f.plan) c.fabric.view_is) in
    let count : c.fabric.inside.room.count ≡ c.args.fabric.count = ap (λ f. f.count) c.fabric.view_is in
    as_seen (λ (old _ : DeskView). FabricIsShut c.args.fabric.count old words) plan kind desk desk c.args.desk setting refl c.desk.view_is
    (is_shut plan desk.table kind c.args.fabric.count desk.number desk.actor desk.seen words
    (subst (λ (n : ℕ). desks.IsShut (office plan) n desk.number desk.actor desk.seen words) count c.in-Ok.ensures))
