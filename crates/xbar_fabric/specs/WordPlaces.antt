-- Where a room keeps the office's words: the frames' words side by side, and then each group's
-- word, each connector's and the turn word, each on cache lines of its own.
use Rattle.std.proofs.Common.{◌≡◌, ◌∙◌, sym, ap, refl, ℕ, ◌+◌, ◌-◌, ◌*◌, ◌/◌, ◌<◌, ◌≤◌, Bool, true, false, cond, nat_lt, arith}
use Rattle.std.specs.Prelude.{if◌then◌else◌}
use Rattle.std.proofs.lemmas.Bool.Decides.{nat_tests}
use Rattle.turns.specs.Places.{ArePlaces, Places}
use Rattle.xbar_equip.specs.Word.{word_count}

-- the place of a word, by its number
abbrev pub place_of : ℕ → ℕ
place_of word = if nat_lt word 400 then word else 400 + (word - 400) * 16

abbrev pub word_places : Places
word_places = record { place = place_of; count = 1248 }

-- the word at a place
abbrev word_at : ℕ → ℕ
word_at place = if nat_lt place 400 then place else 400 + (place - 400) / 16

-- each word is there, and is told from its place
record IsAt (word place : ℕ) : Type 0 where
  there : place < 1248
  told : word_at place ≡ word

word_is_at : (word : ℕ) → word < word_count → IsAt word (place_of word)
word_is_at word below = at (nat_lt word 400) refl where
  at : (b : Bool) → nat_lt word 400 ≡ b → IsAt word (cond b word (400 + (word - 400) * 16))
  at true is = record {
    there = grind (arith, nat_tests);
    told = ap (λ b. cond b word (400 + (word - 400) / 16)) is;
  }
  at false is =
      let from : 400 ≤ word = grind (arith, nat_tests) in
      let past : nat_lt (400 + (word - 400) * 16) 400 ≡ false = grind (arith, nat_tests) in
      record {
        there = omega (arith, below, from);
        told = ap (λ b. cond b (400 + (word - 400) * 16) (400 + (400 + (word - 400) * 16 - 400) / 16)) past ∙ omega (arith, from);
      }

pub are_word_places : ArePlaces word_places word_count
are_word_places = record {
  within = λ word below. (word_is_at word below).there;
  apart = λ a b one other same. sym (word_is_at a one).told ∙ ap word_at same ∙ (word_is_at b other).told;
}
