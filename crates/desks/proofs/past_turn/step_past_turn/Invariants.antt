use Rattle.{turns.specs.System.system_of, desks.specs.{Parts.seen_in, Predictions.confirmed, Kept.HasMoved}}
use Rattle.desks.proofs.past_turn.step_past_turn.Given as goal

abbrev pub ghosts-make : goal.ghosts-make
ghosts-make g a =
    let O = system_of (g.F.Jobs.system a.setting.now) in
    record {
      then =
          λ before found after. HasMoved O a._actor a._number (confirmed O (g.F.Jobs.attempt a._program.now) (g.F.Jobs.predictions_of a._program.now) a._tested)
          (seen_in before) found after;
    }
