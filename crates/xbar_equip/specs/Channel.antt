use Rattle.std.specs.Prelude.{ℕ, ◌<◌, List, [], ◌∷◌}
use Rattle.xbar_equip.specs.Digits.{digit}

-- a channel is a number below ten
abbrev pub IsChannel : ℕ → Type 0
IsChannel channel = channel < 10

-- the text of a channel: one digit
abbrev pub channel_text : ℕ → List ℕ
channel_text channel = digit channel ∷ []
