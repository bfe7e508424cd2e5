use Rattle.std.proofs.Common.{ℕ, slice_set, sym, ◌∙◌, ap, Option}
use Rattle.xbar_core.{specs.{Standing.work_of, declared.{marker.Marker.TheInside.Inside, work.Work.Work}}, proofs.LedSteps.{marker_led, marker_rests}}
use Rattle.xbar_moves.specs.{Exchange.{Exchange, Marker}, Moves.steps}
use Rattle.xbar_core.proofs.marker.Marker.run.Goals.{in-None, in-Some}
use Rattle.xbar_core.proofs.marker.Marker.run.Goals as goal

pub returns-clause-steps : goal.returns-clause-steps
returns-clause-steps c = λ markers records there.
    let k = c.args.number in
    let e : Exchange = record { words = c.args.words.now; markers = markers; records = records } in
    let seen : Inside → Marker = λ a. record { kind = a.kind; work = work_of a.work } in
    elim c.match-self.branch [
      | in-None w ↦
          (λ i. record { words = w.words-is i; markers = slice_set markers k (seen (w.self-inside-is i)); records = records })
          ∙ marker_rests c.args.plan.now k e c.args.self.now _ there c.self.view_is
          ∙ ap (λ (n : ℕ). steps c.args.plan.now k n e) (sym w.result-is)
      | in-Some w ↦
          (λ i. record { words = w.words-is i; markers = slice_set markers k (seen (w.self-inside-is i)); records = records })
          ∙ marker_led c.args.plan.now k e c.args.self.now c.self.inside.kind w.in-Some.work.job_no w.in-Some.work.program.attempt
          w.run.new.self.attempt w.run.new.words w.run.result there
          (sym c.self.view_is ∙ ap (λ (o : Option Work). record { kind = c.self.inside.kind; work = work_of o }) w.in-Some.is) w.run.ensures.steps
          ∙ ap (λ (n : ℕ). steps c.args.plan.now k n e) (sym w.result-is)
    ]
