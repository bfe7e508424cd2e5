use Rattle.std.specs.Prelude.{ℕ, ◌^◌}

-- the number of parts of the right to know the whole, which a queue's tickets share
abbrev pub all_parts : ℕ
all_parts = 2 ^ 64
