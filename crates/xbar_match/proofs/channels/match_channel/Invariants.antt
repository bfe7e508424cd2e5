use Rattle.std.proofs.Common.{◌≡◌, ℕ, ◌<◌, false}
use Rattle.{xbar_equip.specs.Paths.channel_in_turn, xbar_match.specs.Channels.{match_words, is_open_channel}}
use Rattle.xbar_match.proofs.channels.match_channel.Given as goal

abbrev pub invariant-loop-k : goal.invariant-loop-k
invariant-loop-k l = (j : ℕ) → j < l.k → is_open_channel (match_words l.line_word l.junctor_words l.trunk_word) l.t (channel_in_turn l.start j) ≡ false
