use Rattle.std.proofs.Common.{◌≡◌, ℕ, Bool, true, false, ◌⊎◌, List, [], ◌∷◌, inl, inr, refl, sym, ◌∙◌, ap, ◌↔◌, ◌&&◌, ◌||◌, ◌==◌, not, eqb-true, eq-eqb}
use Rattle.{std.specs.List.list_any, xbar_equip.proofs.Logic.{both, both_hold, either, either_holds, not_either}}
use Rattle.xbar_equip.specs.{Len.{Line, line_eq}, Ten.{TrunkPlace, place_eq}, Link.{Link, link_eq, kind_eq}, Among.IsIn, Path.{line_link, junctor, trunk_link}}
use Rattle.xbar_equip.specs.{Paths.{has_link, is_idle}, declared.{link.LinkKind.{LinkKind, TheVariants.{LineLink, Junctor, TrunkLink}}, path.Path.Path}}
pub use Rattle.xbar_equip.specs.Equivalences.{conn_eq-exact, conn_eq-itself}

number_eq-itself : (n : ℕ) → (n == n) ≡ true
number_eq-itself n = eq-eqb n n refl

-- the test finds two lines equal exactly if they are the same
pub line_eq-exact : (a b : Line) → (line_eq a b ≡ true) ↔ (a ≡ b)
line_eq-exact a b = (one, λ same. ap (line_eq a) (sym same) ∙ itself a) where
  one : line_eq a b ≡ true → a ≡ b
  one e =
      let x = both (a.frame == b.frame && a.switch == b.switch) (a.x == b.x) e in
      let rest = both (a.frame == b.frame) (a.switch == b.switch) x.0 in
      let frame = eqb-true a.frame b.frame rest.0 in
      let switch = eqb-true a.switch b.switch rest.1 in
      let last = eqb-true a.x b.x x.1 in
      λ i. record { frame = frame i; switch = switch i; x = last i }

  itself : (l : Line) → line_eq l l ≡ true
  itself l = both_hold (l.frame == l.frame && l.switch == l.switch) (l.x == l.x)
      (both_hold (l.frame == l.frame) (l.switch == l.switch) (number_eq-itself l.frame) (number_eq-itself l.switch)) (number_eq-itself l.x)

-- the same of trunk places
pub place_eq-exact : (a b : TrunkPlace) → (place_eq a b ≡ true) ↔ (a ≡ b)
place_eq-exact a b = (one, λ same. ap (place_eq a) (sym same) ∙ itself a) where
  one : place_eq a b ≡ true → a ≡ b
  one e =
      let x = both (a.frame == b.frame && a.switch == b.switch) (a.appearance == b.appearance) e in
      let rest = both (a.frame == b.frame) (a.switch == b.switch) x.0 in
      let frame = eqb-true a.frame b.frame rest.0 in
      let switch = eqb-true a.switch b.switch rest.1 in
      let last = eqb-true a.appearance b.appearance x.1 in
      λ i. record { frame = frame i; switch = switch i; appearance = last i }

  itself : (l : TrunkPlace) → place_eq l l ≡ true
  itself l = both_hold (l.frame == l.frame && l.switch == l.switch) (l.appearance == l.appearance)
      (both_hold (l.frame == l.frame) (l.switch == l.switch) (number_eq-itself l.frame) (number_eq-itself l.switch)) (number_eq-itself l.appearance)

-- kinds of link that the test finds equal are the same
kind_eq-one : (a b : LinkKind) → kind_eq a b ≡ true → a ≡ b
kind_eq-one LineLink LineLink e = refl
kind_eq-one Junctor Junctor e = refl
kind_eq-one TrunkLink TrunkLink e = refl
kind_eq-one LineLink Junctor e = cc
kind_eq-one LineLink TrunkLink e = cc
kind_eq-one Junctor LineLink e = cc
kind_eq-one Junctor TrunkLink e = cc
kind_eq-one TrunkLink LineLink e = cc
kind_eq-one TrunkLink Junctor e = cc

kind_eq-itself : (a : LinkKind) → kind_eq a a ≡ true
kind_eq-itself LineLink = refl
kind_eq-itself Junctor = refl
kind_eq-itself TrunkLink = refl

pub kind_eq-exact : (a b : LinkKind) → (kind_eq a b ≡ true) ↔ (a ≡ b)
kind_eq-exact a b = (kind_eq-one a b, λ same. ap (kind_eq a) (sym same) ∙ kind_eq-itself a)

-- the same of links
pub link_eq-exact : (a b : Link) → (link_eq a b ≡ true) ↔ (a ≡ b)
link_eq-exact a b = (one, λ same. ap (link_eq a) (sym same) ∙ itself a) where
  one : link_eq a b ≡ true → a ≡ b
  one e =
      let x = both (kind_eq a.kind b.kind && a.frame == b.frame && a.at == b.at) (a.channel == b.channel) e in
      let y = both (kind_eq a.kind b.kind && a.frame == b.frame) (a.at == b.at) x.0 in
      let z = both (kind_eq a.kind b.kind) (a.frame == b.frame) y.0 in
      let kind = kind_eq-one a.kind b.kind z.0 in
      let frame = eqb-true a.frame b.frame z.1 in
      let at = eqb-true a.at b.at y.1 in
      let channel = eqb-true a.channel b.channel x.1 in
      λ i. record { kind = kind i; frame = frame i; at = at i; channel = channel i }

  itself : (l : Link) → link_eq l l ≡ true
  itself l = both_hold (kind_eq l.kind l.kind && l.frame == l.frame && l.at == l.at) (l.channel == l.channel)
      (both_hold (kind_eq l.kind l.kind && l.frame == l.frame) (l.at == l.at)
      (both_hold (kind_eq l.kind l.kind) (l.frame == l.frame) (kind_eq-itself l.kind) (number_eq-itself l.frame)) (number_eq-itself l.at))
      (number_eq-itself l.channel)

-- a path has a link exactly if the link is one of its three
pub has_link-exact : (link : Link) (path : Path) → (has_link link path ≡ true) ↔ ((line_link path ≡ link) ⊎ (junctor path ≡ link) ⊎ (trunk_link path ≡ link))
has_link-exact link path = (one, has) where
  l : Bool
  l = link_eq (line_link path) link

  j : Bool
  j = link_eq (junctor path) link

  t : Bool
  t = link_eq (trunk_link path) link

  one : has_link link path ≡ true → (line_link path ≡ link) ⊎ (junctor path ≡ link) ⊎ (trunk_link path ≡ link)
  one e = elim (either (l || j) t e) [
    | inl first ↦ elim (either l j first) [
      | inl x ↦ inl ((link_eq-exact (line_link path) link).0 x)
      | inr x ↦ inr (inl ((link_eq-exact (junctor path) link).0 x))
    ]
    | inr x ↦ inr (inr ((link_eq-exact (trunk_link path) link).0 x))
  ]

  has : (line_link path ≡ link) ⊎ (junctor path ≡ link) ⊎ (trunk_link path ≡ link) → has_link link path ≡ true
  has (inl e) = either_holds (l || j) t (inl (either_holds l j (inl ((link_eq-exact (line_link path) link).1 e))))
  has (inr (inl e)) = either_holds (l || j) t (inl (either_holds l j (inr ((link_eq-exact (junctor path) link).1 e))))
  has (inr (inr e)) = either_holds (l || j) t (inr ((link_eq-exact (trunk_link path) link).1 e))

-- what no path has is idle
pub idle-none : (has : Path → Bool) (paths : List Path) → ((p : Path) → IsIn p paths → has p ≡ false) → is_idle has paths ≡ true
idle-none has [] none = refl
idle-none has (p ∷ paths) none = ap (λ b. not (b || list_any has paths)) (none p (inl refl)) ∙ idle-none has paths (λ q within. none q (inr within))

-- what is idle no path has
pub none-idle : (has : Path → Bool) (paths : List Path) → is_idle has paths ≡ true → (p : Path) → IsIn p paths → has p ≡ false
none-idle has [] idle p within = absurd within
none-idle has (q ∷ paths) idle p (inl same) = ap has same ∙ (not_either (has q) (list_any has paths) idle).0
none-idle has (q ∷ paths) idle p (inr within) = none-idle has paths (not_either (has q) (list_any has paths) idle).1 p within
