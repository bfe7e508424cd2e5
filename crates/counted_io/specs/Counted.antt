use Rattle.std.specs.Prelude.{ℕ}
use Rattle.counted_io.specs.declared.counted.Counted.{Counted}

-- the reader or writer inside
abbrev pub counted_inner : {T : Type 0} → Counted T → T
counted_inner counted = counted.inner

-- the failures so far
abbrev pub counted_failures : {T : Type 0} → Counted T → ℕ
counted_failures counted = counted.failures

-- the reads so far that returned bytes
abbrev pub counted_reads : {T : Type 0} → Counted T → ℕ
counted_reads counted = counted.reads
