use Rattle.std.proofs.Common.{slice_set, sym, ◌∙◌, ap, Option}
use Rattle.xbar_core.{specs.{Standing.work_of, declared.{marker.Marker.TheInside.Inside, work.Work.Work}}, proofs.MarkerSteps.{step_goes, step_rests}}
use Rattle.xbar_moves.specs.Exchange.{Exchange, Marker, is_idle}
use Rattle.xbar_core.proofs.marker.Marker.advance.Goals.{in-None, in-Some, in-Some-2}
use Rattle.xbar_core.proofs.marker.Marker.advance.Goals as goal

pub returns-clause-step : goal.returns-clause-step
returns-clause-step c = λ markers there.
    let k = c.args.number in
    let e : Exchange = record { words = c.args.words.now; markers = markers; records = c.args.records.now.items } in
    let seen : Inside → Marker = λ a. record { kind = a.kind; work = work_of a.work } in
    let was = ap (λ (m : Marker). is_idle m.work) (sym c.self.view_is) in
    elim c.match-self.branch [
      | in-None w ↦
          (λ i. record { words = w.words-is i; markers = slice_set markers k (seen c.match-self.self-inside); records = (w.records-is i).items })
          ∙ step_rests c.args.plan.now e k c.args.self.now there _ (was ∙ ap (λ (o : Option Work). is_idle (work_of o)) w.in-None.is)
          (ap seen w.self-inside-is ∙ c.self.view_is)
      | in-Some w ↦
          (λ i. record { words = w.words-is i; markers = slice_set markers k (seen c.match-self.self-inside); records = (w.records-is i).items })
          ∙ step_rests c.args.plan.now e k c.args.self.now there _ (was ∙ ap (λ (o : Option Work). is_idle (work_of o)) w.in-Some.is ∙ sym w.if-is_done.ensures)
          (ap seen w.self-inside-is ∙ ap (λ (o : Option Work). record { kind = c.self.inside.kind; work = work_of o }) (sym w.in-Some.is) ∙ c.self.view_is)
      | in-Some-2 w ↦
          (λ i. record { words = w.words-is i; markers = slice_set markers k (seen (w.self-inside-is i)); records = (w.records-is i).items })
          ∙ step_goes c.args.plan.now e k c.args.self.now there c.self.inside.kind w.in-Some.work w.step.new.self w.step.new.words w.step.new.records.items
          (sym c.self.view_is ∙ ap (λ (o : Option Work). record { kind = c.self.inside.kind; work = work_of o }) w.in-Some.is) (sym w.if-is_done.ensures)
          w.step.ensures.work w.step.ensures.words w.step.ensures.records
    ]
