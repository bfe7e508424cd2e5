use Rattle.std.proofs.Common.{◌≡◌, ◌<◌, ℕ, length, slice_index}
use Rattle.desks.proofs.room.in_places.Given as goal

abbrev pub invariant-loop-word : goal.invariant-loop-word
invariant-loop-word g l = record {
  count : length l.table.items ≡ (g.F.Jobs.places l.setting).count;
  placed : (n : ℕ) → n < l.word → slice_index l.table.items ((g.F.Jobs.places l.setting).place n) ≡ slice_index l.words n;
}
