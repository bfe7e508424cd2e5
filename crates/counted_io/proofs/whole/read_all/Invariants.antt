-- What was read so far is what the source gave, no failure was counted, and each iteration adds at
-- least a byte.
use Rattle.std.proofs.Common.{◌≡◌, ◌-◌, ◌^◌, length}
use Rattle.std.specs.Io.KnownBytes.{Consumes}
use Rattle.counted_io.proofs.whole.read_all.Given as goal

abbrev pub invariant-loop-chunk : goal.invariant-loop-chunk
invariant-loop-chunk g l =
    Consumes (g.R.Read.remaining l.initial.source) (g.R.Read.remaining l.source) l.bytes.items
    × (g.R.Source.failure_count l.source ≡ g.R.Source.failure_count l.initial.source)

abbrev pub decreases-loop-chunk : goal.decreases-loop-chunk
decreases-loop-chunk g l = 2 ^ 64 - length l.bytes.items
