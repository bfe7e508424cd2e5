use Rattle.std.specs.Prelude.{ℕ, List}
use Rattle.crossbar5_c.specs.declared.bytes.Bytes.{Bytes}

-- the bytes that are left to read
abbrev pub rest_of : Bytes → List ℕ
rest_of bytes = bytes.0.now
