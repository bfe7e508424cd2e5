use Rattle.std.proofs.Common.{◌≡◌, ℕ, suc, None, false}
use Rattle.{desks.specs.Views.IsDeskOf, turns.specs.{Runs.is_available, System.system_of}, workers.specs.{Tries.HasTriedInVain, Workers.HasFinished}}
use Rattle.workers.proofs.driving.persist.Given as goal

abbrev pub invariant-loop-made : goal.invariant-loop-made
invariant-loop-made g l =
    let O = system_of (g.F.Jobs.system l.setting) in
    record {
      desk : IsDeskOf l.desk l.room l.setting;
      finished : HasFinished O l.fn.desk l.desk None;
      busy : is_available O l.desk.actor ≡ false;
      in_vain : (made : ℕ) × (l.made ≡ suc made) × HasTriedInVain O (g.B.BackOff.Answers l.back_off) l.patience made l.fn.desk l.desk;
    }
