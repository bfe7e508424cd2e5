use Rattle.std.proofs.Common.{◌≡◌, sym, ap, subst, ◌∙◌}
use Rattle.{turns.specs.Attempt.{asked_in, change}, xbar_jobs.specs.{Attempt.Attempt, Office.office}, xbar_fabric.specs.Advances.MarkerHasAdvanced}
use Rattle.xbar_fabric.{specs.Views.DeskView, proofs.{Steps.{as_seen, desk_at}, ToldSteps.{busy_now, does_same, finishes_job, moves, stays}}}
use Rattle.desks.specs.Desks as desks
use Rattle.xbar_moves.specs.declared.event.Event.TheVariants as event
use Rattle.xbar_fabric.proofs.desk.Desk.advance.Goals.{in-Idle, in-Moved, in-Finished}
use Rattle.xbar_fabric.proofs.desk.Desk.advance.Goals as goal

pub returns-clause-advanced : goal.returns-clause-advanced
returns-clause-advanced c =
    let plan = c.fabric.inside.plan.now in
    let desk = c.self.inside.desk in
    let kind = c.self.inside.kind in
    let after = c.advance.new.self in
    let advanced = c.advance.ensures.advanced in
    let all : MarkerHasAdvanced (desk_at c.self.inside.desk.table c.fabric.inside.plan.now c.self.inside.kind c.self.inside.desk.number c.self.inside.desk.actor
    c.self.inside.desk.seen) (desk_at c.self.inside.desk.table c.fabric.inside.plan.now c.self.inside.kind c.self.inside.desk.number c.advance.new.self.actor
    c.advance.new.self.seen) c.match-advance.result = elim c.match-advance.branch [
      | in-Idle w ↦
          let reported = subst (desks.HasAdvanced (office plan) desk.number desk.actor after.actor desk.seen after.seen) w.in-Idle.is advanced in
          subst (MarkerHasAdvanced (desk_at desk.table plan kind desk.number desk.actor desk.seen)
          (desk_at desk.table plan kind desk.number after.actor after.seen)) (sym w.result-is)
          (stays plan desk.table kind desk.number desk.actor after.actor desk.seen after.seen reported.0 reported.1 reported.2)
      | in-Moved w ↦
          let reported = subst (desks.HasAdvanced (office plan) desk.number desk.actor after.actor desk.seen after.seen) w.in-Moved.is advanced in
          let step = reported.0 in
          let same = does_same _ _ _ _ (sym c.in-Some.ensures ∙ step.before_is) in
          let busy = busy_now plan desk.table kind desk.number desk.actor after.actor desk.seen after.seen w.in-Moved.answer step reported.1 in
          let is =
          w.result-is
          ∙ w.of_answer.ensures desk.number step.number step.attempt (change (office plan) step.attempt w.in-Moved.answer)
          (c.asked-asked.ensures ∙ ap (λ (a : Attempt). asked_in a.phase) same.1) (λ _. busy) in
          moves plan desk.table kind desk.number desk.actor after.actor desk.seen after.seen w.in-Moved.answer step c.match-advance.result is reported.1
      | in-Finished w ↦
          let reported = subst (desks.HasAdvanced (office plan) desk.number desk.actor after.actor desk.seen after.seen) w.in-Finished.is advanced in
          subst (MarkerHasAdvanced (desk_at desk.table plan kind desk.number desk.actor desk.seen)
          (desk_at desk.table plan kind desk.number after.actor after.seen)) (sym (w.result-is ∙ ap event.Finished w.record_of.ensures))
          (finishes_job plan desk.table kind desk.number desk.actor after.actor desk.seen after.seen reported.0 reported.1
          (desks.as_record w.in-Finished.reported) c.fabric.invariant.2 reported.2 reported.3)
    ] in
    let setting : c.self.inside.desk.setting ≡ c.fabric.inside.plan.now =
    ap (λ d. d.plan) c.self.view_is ∙ c.requires.plan_is ∙ sym (ap (λ f. f.plan) c.fabric.view_is) in
    as_seen (λ (old new : DeskView). MarkerHasAdvanced old new c.match-advance.result) plan kind desk after c.args.self.now setting c.advance.ensures.same
    c.self.view_is all
