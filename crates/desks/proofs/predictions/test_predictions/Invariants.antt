use Rattle.std.proofs.Common.{◌≡◌, ◌-◌, ◌≤◌, length}
use Rattle.turns.specs.System.{system_of}
use Rattle.desks.specs.{Running.{HasComeTo, IsAtWork}, Predictions.confirmed, Parts.seen_in, Watching.watched_more, Kept.HasMoved}
use Rattle.desks.proofs.predictions.test_predictions.Given as goal

abbrev pub invariant-loop-prediction : goal.invariant-loop-prediction
invariant-loop-prediction g l =
    let O = system_of (g.F.Jobs.system l.setting) in
    let a = g.F.Jobs.attempt l.program in
    let predictions = g.F.Jobs.predictions_of l.program in
    record {
      at_work : IsAtWork O (g.F.Jobs.places l.setting) (g.F.Jobs.IsSetting l.setting) (g.F.Jobs.IsValid l.setting l.program) l.setting
          l.shared.key.setting.value l.shared.table_id l.seat.table_id l.seat.me l.actor l.number (confirmed O a predictions l.made);
      come : HasComeTo O l.actor l.number l.made a (confirmed O a predictions l.made) l.fn.seat.me l.seat.me;
      reported : g.W.Watch.steps_watched l.watch ≡ watched_more l.made (g.W.Watch.steps_watched l.fn.watch);
      within : l.made ≤ length predictions;
    }

abbrev pub decreases-loop-prediction : goal.decreases-loop-prediction
decreases-loop-prediction g l = length (g.F.Jobs.predictions_of l.program) - l.made

abbrev pub ghosts-make : goal.ghosts-make
ghosts-make g a =
    let O = system_of (g.F.Jobs.system a.setting.now) in
    record {
      then =
          λ before found after. HasMoved O a._actor a._number (confirmed O (g.F.Jobs.attempt a._program.now) (g.F.Jobs.predictions_of a._program.now) a._tested)
          (seen_in before) found after;
    }
