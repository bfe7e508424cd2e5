use Rattle.std.proofs.Common.{◌≡◌, ◌+◌, ◌≤◌, ◌++◌, List, vec_capacity, vec_len}
use Rattle.{std.specs.Vec.Iter.{into_iter_items, into_iter_len}, xbar_fabric.specs.Views.{AreBelow, DeskView}}
use Rattle.xbar_fabric.proofs.shutting.take_apart.Given as goal

abbrev pub invariant-loop-desk : goal.invariant-loop-desk
invariant-loop-desk l = record {
  apart : (done : List DeskView) × (done ++ into_iter_items l.desks ≡ l.fn.desks.items) × AreBelow l.rest.items done;
  left : into_iter_len l.desks + vec_len l.rest ≡ vec_len l.fn.desks;
  room : vec_len l.fn.desks ≤ vec_capacity l.rest;
}

abbrev pub decreases-loop-desk : goal.decreases-loop-desk
decreases-loop-desk l = into_iter_len l.desks
