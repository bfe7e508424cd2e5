use Rattle.std.proofs.Common.{◌≡◌, ◌≤◌, ℕ, map}
use Rattle.xbar_markers.specs.DesksByKind.{kinds_of}
use Rattle.xbar_markers.proofs.running.count_dialling.Given as goal

abbrev pub invariant-loop-desk : goal.invariant-loop-desk
invariant-loop-desk l = record {
  count : l.count ≡ l.desk-index;
  below : (dialling completing : ℕ) → map (λ desk. desk.kind) l.desks ≡ kinds_of dialling completing → l.count ≤ dialling;
}
