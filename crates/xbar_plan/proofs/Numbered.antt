use Rattle.std.proofs.Common.{◌≡◌, Bool, true, false, List, [], ◌∷◌, map, refl, sym, ◌∙◌, ap, arith, nat_eq, not, ◌&&◌, ◌||◌, eqb-true, eq-eqb}
use Rattle.{std.specs.List.{list_any, list_all}, xbar_equip.specs.Ten.{TrunkPlace, IsTrunkPlace, is_trunk_place, place_eq}}
use Rattle.{xbar_equip.proofs.{Logic.both, PathTests.place_eq-exact, Ranges.place_in_range}, xbar_plan.specs.{Lawful.are_distinct, Numbered.place_number}}

-- places in range with the same number are the same
pub one_place : (a b : TrunkPlace) → IsTrunkPlace a → IsTrunkPlace b → place_number a ≡ place_number b → a ≡ b
one_place a b h k e =
    let ha = h.appearance in
    let hs = h.switch in
    let ka = k.appearance in
    let ks = k.switch in
    let frame : a.frame ≡ b.frame = omega (arith, e, ha, hs, ka, ks) in
    let switch : a.switch ≡ b.switch = omega (arith, e, frame, ha, ka) in
    let appearance : a.appearance ≡ b.appearance = omega (arith, e, frame, switch) in
    λ i. record { frame = frame i; switch = switch i; appearance = appearance i }

same_test : (a b : TrunkPlace) → IsTrunkPlace a → IsTrunkPlace b → place_eq a b ≡ nat_eq (place_number a) (place_number b)
same_test a b h k = of (place_eq a b) (nat_eq (place_number a) (place_number b)) refl refl where
  of : (t u : Bool) → place_eq a b ≡ t → nat_eq (place_number a) (place_number b) ≡ u → t ≡ u
  of true u e f = sym (eq-eqb (place_number a) (place_number b) (ap place_number ((place_eq-exact a b).0 e))) ∙ f
  of false true e f = sym e ∙ (place_eq-exact a b).1 (one_place a b h k (eqb-true (place_number a) (place_number b) f))
  of false false e f = refl

same_any : (place : TrunkPlace) → IsTrunkPlace place → (xs : List TrunkPlace) → list_all is_trunk_place xs ≡ true
    → list_any (λ other. place_eq other place) xs ≡ list_any (λ other. nat_eq other (place_number place)) (map place_number xs)
same_any place h [] all = refl
same_any place h (x ∷ xs) all =
    let parts = both (is_trunk_place x) (list_all is_trunk_place xs) all in
    ap (λ (b : Bool). b || list_any (λ other. place_eq other place) xs) (same_test x place (place_in_range x parts.0) h)
    ∙ ap (λ (b : Bool). nat_eq (place_number x) (place_number place) || b) (same_any place h xs parts.1)

-- places in range are distinct exactly if their numbers are
pub numbers-distinct : (xs : List TrunkPlace) → list_all is_trunk_place xs ≡ true → are_distinct place_eq xs ≡ are_distinct nat_eq (map place_number xs)
numbers-distinct [] all = refl
numbers-distinct (x ∷ xs) all =
    let parts = both (is_trunk_place x) (list_all is_trunk_place xs) all in
    ap (λ (b : Bool). not b && are_distinct place_eq xs) (same_any x (place_in_range x parts.0) xs parts.1)
    ∙ ap (λ (b : Bool). not (list_any (λ other. nat_eq other (place_number x)) (map place_number xs)) && b) (numbers-distinct xs parts.1)
