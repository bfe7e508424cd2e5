-- the run of two actors by hand
use Rattle.std.proofs.Common.{◌≡◌, [], ◌∷◌, refl}
use Rattle.turns.specs.Script.{◌>>=◌, is_held, value_read, left, left_of_test, left_of_seizing, first_wanted, walk}
use Rattle.slots.specs.{Slots.lowest_free, System.{slot_steps, upper_steps, upper_too_steps}, WorkedRun.{replies, worked}}

pub worked_words : worked.words ≡ 3 ∷ 1 ∷ 0 ∷ 0 ∷ 2 ∷ []
unfolding lowest_free slot_steps upper_steps upper_too_steps ◌>>=◌ is_held value_read left left_of_test left_of_seizing first_wanted walk
worked_words = refl

pub worked_replies : replies worked.order ≡ (0 ∷ []) ∷ (1 ∷ 32 ∷ []) ∷ []
unfolding lowest_free slot_steps upper_steps upper_too_steps ◌>>=◌ is_held value_read left left_of_test left_of_seizing first_wanted walk
worked_replies = refl
