-- of a place that is no group crosspoints are switched
use Rattle.std.proofs.Common.{◌≡◌, ℕ, refl, codes}
use Rattle.xbar_step_text.specs.{Words.{close_words, open_words, switched_words}, declared.place.Place.{Place, TheVariants.Group}}

pub closes : (place : Place) (bits : ℕ) → ((group : ℕ) → place ≡ Group group → ⊥)
    → switched_words (codes "closes ") (codes " are joined") place bits ≡ close_words place bits
unfolding close_words
closes (Group group) bits other = absurd (other group refl)
closes _ bits other = refl

pub opens : (place : Place) (bits : ℕ) → ((group : ℕ) → place ≡ Group group → ⊥)
    → switched_words (codes "opens ") (codes " are parted") place bits ≡ open_words place bits
unfolding open_words
opens (Group group) bits other = absurd (other group refl)
opens _ bits other = refl
