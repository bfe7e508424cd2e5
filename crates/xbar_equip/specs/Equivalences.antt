-- the code's equality tests are equivalence relations, since they are exact
use Rattle.std.specs.Prelude.{◌≡◌, ◌↔◌, Bool, true, false}
use Rattle.std.specs.Cmp.{IsPartialEquivalence, IsEquivalence, partial_equiv_from_equiv}
use Rattle.std.proofs.Common.{refl, sym, ◌∙◌, ap}
use borrow.Author.Tests.{eqb-true, eq-eqb}
use mathlib.Core.Bool.{true≢false}
use Rattle.xbar_equip.specs.Conn.{conn_eq}
use Rattle.xbar_equip.specs.declared.conn.Conn.{Conn}
use Rattle.xbar_equip.specs.declared.conn.Conn.TheVariants.{Llf, Tlf, Group}

-- an exact equality test is an equivalence relation
pub exact-equivalence : {K : Type 0} (test : K → K → Bool)
    → ((x y : K) → (test x y ≡ true) ↔ (x ≡ y)) → IsEquivalence test
exact-equivalence {K} test exact = record {
  refl = λ x. (exact x x).1 refl;
  symm = λ x y. of x y (test x y) (test y x) refl refl;
  congr = λ x y z e. ap (λ (a : K). test a z) ((exact x y).0 e);
} where
  of : (x y : K) (b c : Bool) → test x y ≡ b → test y x ≡ c → test x y ≡ test y x
  of x y true c e f = e ∙ sym ((exact y x).1 (sym ((exact x y).0 e)))
  of x y false true e f = absurd (true≢false (sym ((exact x y).1 (sym ((exact y x).0 f))) ∙ e))
  of x y false false e f = e ∙ sym f

-- connectors that the test finds equal are the same
conn_eq-one : (a b : Conn) → conn_eq a b ≡ true → a ≡ b
conn_eq-one (Llf a) (Llf b) e = ap Llf (eqb-true a b e)
conn_eq-one (Tlf a) (Tlf b) e = ap Tlf (eqb-true a b e)
conn_eq-one (Group a) (Group b) e = ap Group (eqb-true a b e)
conn_eq-one (Llf a) (Tlf b) e = absurd (true≢false (sym e))
conn_eq-one (Llf a) (Group b) e = absurd (true≢false (sym e))
conn_eq-one (Tlf a) (Llf b) e = absurd (true≢false (sym e))
conn_eq-one (Tlf a) (Group b) e = absurd (true≢false (sym e))
conn_eq-one (Group a) (Llf b) e = absurd (true≢false (sym e))
conn_eq-one (Group a) (Tlf b) e = absurd (true≢false (sym e))

-- the test finds a connector equal to itself
pub conn_eq-itself : (conn : Conn) → conn_eq conn conn ≡ true
conn_eq-itself (Llf frame) = eq-eqb frame frame refl
conn_eq-itself (Tlf frame) = eq-eqb frame frame refl
conn_eq-itself (Group group) = eq-eqb group group refl

-- the test finds two connectors equal exactly if they are the same
pub conn_eq-exact : (a b : Conn) → (conn_eq a b ≡ true) ↔ (a ≡ b)
conn_eq-exact a b = (conn_eq-one a b, λ same. ap (conn_eq a) (sym same) ∙ conn_eq-itself a)

-- the test is an equivalence relation
pub conn-equivalence : IsEquivalence conn_eq
conn-equivalence = exact-equivalence conn_eq conn_eq-exact

-- and a partial one
pub conn-partial_equivalence : IsPartialEquivalence conn_eq
conn-partial_equivalence = partial_equiv_from_equiv conn-equivalence
