use Rattle.std.proofs.Common.{◌≡◌, All, length}
use Rattle.{xbar_moves.specs.declared.kinds.Kind.TheVariants.Completing, xbar_markers.specs.{Calls.HasDialTone, Shares.HasServed, Work.IsReady}}
use Rattle.xbar_markers.proofs.completing.Worker+Desk+G.complete_kept.Given as goal

abbrev pub invariant-loop-call : goal.invariant-loop-call
invariant-loop-call g l = record {
  ready : IsReady l.self.desk l.fabric;
  kind : l.self.desk.kind ≡ Completing;
  calls : l.share.calls ≡ l.initial.share.calls;
  tasks : l.share.tasks ≡ l.initial.share.tasks;
  kept : All HasDialTone l.share.kept.items;
  served : HasServed l.initial.self.desk l.initial.share l.self.desk l.share;
}

abbrev pub decreases-loop-call : goal.decreases-loop-call
decreases-loop-call g l = length l.share.kept.items
