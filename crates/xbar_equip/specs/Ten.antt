use Rattle.std.specs.Prelude.{ℕ, ◌<◌, ◌==◌, ◌&&◌, nat_lt, Bool, List, [], ◌∷◌}
use Rattle.std.specs.Ordering.{nat_cmp, ordering_then}
use Rattle.std.specs.declared.cmp.Ordering.{Ordering}
use Rattle.xbar_equip.specs.Digits.{digit}

-- the place of a trunk or a register, by its trunk link frame, its trunk switch and its appearance
-- on that switch
pub record TrunkPlace : Type 0 where
  pub frame : ℕ
  pub switch : ℕ
  pub appearance : ℕ

-- the place exists: there are ten frames of ten trunk switches with ten appearances each
pub record IsTrunkPlace (place : TrunkPlace) : Type 0 where
  pub frame : place.frame < 10
  pub switch : place.switch < 10
  pub appearance : place.appearance < 10

-- `IsTrunkPlace` as a test
abbrev pub is_trunk_place : TrunkPlace → Bool
is_trunk_place place = nat_lt place.frame 10 && nat_lt place.switch 10 && nat_lt place.appearance 10

-- the text of a trunk place, a digit each: frame, switch and appearance
abbrev pub place_text : TrunkPlace → List ℕ
place_text place = digit place.frame ∷ digit place.switch ∷ digit place.appearance ∷ []

-- whether two trunk places are the same
abbrev pub place_eq : TrunkPlace → TrunkPlace → Bool
place_eq a b = a.frame == b.frame && a.switch == b.switch && a.appearance == b.appearance

-- the order of trunk places, by frame, then switch, then appearance, which is also the order of
-- their texts
abbrev pub place_cmp : TrunkPlace → TrunkPlace → Ordering
place_cmp a b =
    ordering_then (nat_cmp a.frame b.frame)
    (ordering_then (nat_cmp a.switch b.switch) (nat_cmp a.appearance b.appearance))
