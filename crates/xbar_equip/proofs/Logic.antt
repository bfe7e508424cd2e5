-- small facts about tests, for the proofs of every crate
use Rattle.std.proofs.Common.{◌≡◌, ◌⊎◌, Bool, true, false, inl, inr, refl, ◌||◌, not}
-- if `a && b` holds, both hold (`both`); if both hold, `a && b` does (`both_hold`); if `a || b`
-- holds, one of them does (`either`)
pub use Rattle.std.proofs.lemmas.Bool.{and_parts as both, and_from as both_hold, or_cases as either}
pub use Rattle.std.proofs.Math.Bool.{and-true as and_true, and-false as and_false, or-true as or_true, or-false as or_false}

-- if one of a and b holds, `a || b` holds
pub either_holds : (a b : Bool) → (a ≡ true) ⊎ (b ≡ true) → (a || b) ≡ true
either_holds true b e = refl
either_holds false b (inl e) = cc
either_holds false b (inr e) = e

-- if `a || b` fails, both fail
pub not_either : (a b : Bool) → not (a || b) ≡ true → (a ≡ false) × (not b ≡ true)
not_either true b e = cc
not_either false b e = (refl, e)

-- a test and its opposite do not both hold
pub not_both : (b : Bool) → not b ≡ true → b ≡ true → ⊥
not_both true x y = cc
not_both false x y = cc
