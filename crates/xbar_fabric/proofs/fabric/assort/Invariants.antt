use Rattle.std.proofs.Common.{◌≡◌, ◌+◌, ◌≤◌, ◌++◌, length, drop, vec_capacity, vec_len}
use Rattle.{std.specs.Vec.Iter.{into_iter_items, into_iter_len}, xbar_fabric.{specs.Views.new_desks, proofs.NewDesks.{AreFrom, fabric_of}}}
use Rattle.xbar_fabric.proofs.fabric.assort.Given as goal

abbrev pub invariant-loop-kind : goal.invariant-loop-kind
invariant-loop-kind l =
    record {
      rest : AreFrom l.room l.kind-index (into_iter_items l.rest);
      left : into_iter_len l.rest + l.kind-index ≡ length l.kinds;
      built : l.all.items ++ new_desks (fabric_of l.room) l.kind-index (drop l.kind-index l.kinds) ≡ new_desks (fabric_of l.room) 0 l.kinds;
      len : vec_len l.all ≡ l.kind-index;
      room : length l.kinds ≤ vec_capacity l.all;
    }
