use Rattle.std.proofs.Common.{◌≡◌, ◌≤◌, ℕ, None, false}
use Rattle.{desks.specs.Views.IsDeskOf, turns.specs.{Runs.is_available, System.system_of}, workers.specs.{Tries.HasGoneOnFreely, Workers.HasFinished}}
use Rattle.workers.proofs.driving.finish_or_be_denied.Given as goal

abbrev pub invariant-loop : goal.invariant-loop
invariant-loop g l =
    let O = system_of (g.F.Jobs.system l.setting) in
    record {
      desk : IsDeskOf l.desk l.room l.setting;
      finished : HasFinished O l.fn.desk l.desk None;
      gone_on : (count : ℕ) × (l.counter ≤ count) × HasGoneOnFreely O count l.fn.desk l.desk;
      busy : is_available O l.fn.desk.actor ≡ false → is_available O l.desk.actor ≡ false;
    }
