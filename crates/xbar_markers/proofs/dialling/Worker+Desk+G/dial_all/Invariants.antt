use Rattle.std.proofs.Common.{◌≡◌}
use Rattle.{xbar_moves.specs.declared.kinds.Kind.TheVariants.Dial, xbar_markers.specs.{Shares.{HasServed, HasTickets, MayUse}, Work.IsReady}}
use Rattle.xbar_markers.proofs.dialling.Worker+Desk+G.dial_all.Given as goal

abbrev pub invariant-loop : goal.invariant-loop
invariant-loop g l = record {
  may : MayUse l.share l.queues;
  ready : IsReady l.self.desk l.fabric;
  kind : l.self.desk.kind ≡ Dial;
  tickets : HasTickets l.initial.share l.share;
  served : HasServed l.initial.self.desk l.initial.share l.self.desk l.share;
}
