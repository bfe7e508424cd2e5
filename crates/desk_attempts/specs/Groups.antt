use Rattle.std.specs.Prelude.{◌≡◌, ℕ, ◌+◌, ◌-◌, ◌*◌, ◌/◌, ◌%◌, ◌^◌, nat_lt, if◌then◌else◌}
use Rattle.turns.specs.Layouts.{Layout, in_rows, lock_word_in, size_of, turn_word_in, zeros_of}
use Rattle.attempts.specs.SystemWith.{SystemWith}
use Rattle.turns.specs.Places.{Places}
use Rattle.desk_attempts.specs.declared.on_groups.Groups.{Groups}

-- the layout of words in such groups
abbrev pub layout_of : Groups → Layout
layout_of groups = in_rows groups.count groups.each

-- how far one group begins after another in a room's table: so far that a pair of cache lines,
-- which is 16 words, never has words of both. Groups too large for that stand close together.
abbrev pub stride_of : Groups → ℕ
stride_of groups =
    if nat_lt (groups.each + 31) (2 ^ 32) then (groups.each + 31) / 16 * 16 else groups.each + 1

-- the place of a word: each group's words, then its lock's own word; after all groups the turn word
abbrev pub place_of : Groups → ℕ → ℕ
place_of groups word =
    if nat_lt word (groups.count * groups.each)
    then word / groups.each * stride_of groups + word % groups.each
    else if nat_lt word (groups.count * groups.each + groups.count)
    then (word - groups.count * groups.each) * stride_of groups + groups.each
    else groups.count * stride_of groups

-- where a room keeps words in such groups
abbrev pub places_of : Groups → Places
places_of groups = record {
  place = place_of groups;
  count = groups.count * stride_of groups + 16;
}

-- a system's words are laid out in such groups
pub record IsLaidOut {Job Reply Effect Decision : Type 0}
    (S : SystemWith ℕ Job Reply Effect Decision) (groups : Groups) : Type 0 where
  pub size : S.size ≡ size_of (layout_of groups)
  pub initial : S.initial ≡ zeros_of (layout_of groups)
  pub lock_word : (lock : ℕ) → S.lock_word lock ≡ lock_word_in (layout_of groups) lock
  pub turn_word : S.turn_word ≡ turn_word_in (layout_of groups)
