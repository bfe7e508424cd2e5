use Rattle.std.proofs.Common.{◌≡◌}
use Rattle.{xbar_moves.specs.declared.kinds.Kind.TheVariants.Completing, xbar_markers.specs.{Shares.{HasServed, HasTickets, MayUse}, Work.IsReady}}
use Rattle.xbar_markers.proofs.completing.Worker+Desk+G.complete_all.Given as goal

abbrev pub invariant-loop : goal.invariant-loop
invariant-loop g l = record {
  may : MayUse l.share l.queues;
  ready : IsReady l.self.desk l.fabric;
  kind : l.self.desk.kind ≡ Completing;
  tickets : HasTickets l.initial.share l.share;
  same_kept : l.share.kept.items ≡ l.initial.share.kept.items;
  same_calls : l.share.calls ≡ l.initial.share.calls;
  served : HasServed l.initial.self.desk l.initial.share l.self.desk l.share;
}
