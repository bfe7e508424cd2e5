use Rattle.std.proofs.Common.{◌≡◌, refl, ◌∙◌, ap, nat_cmp}
use Rattle.std.specs.{Ordering.{ordering_then, ordering_reverse}, declared.cmp.Ordering.{Ordering, TheVariants.{Less, Equal, Greater}}, Cmp.IsTotalOrder}
use Rattle.std.proofs.lemmas.{Cmp.{nat_cmp_total, then_total, on_total}, Map.Lookups.exact_unsigned}
use Rattle.xbar_equip.specs.{Len.{Line, line_cmp}, Ten.{TrunkPlace, place_cmp}, Path.path_cmp, declared.path.Path.Path}

pub line_cmp_total : IsTotalOrder line_cmp
line_cmp_total =
    then_total (on_total (λ line. line.frame) nat_cmp_total)
    (then_total (on_total (λ line. line.switch) nat_cmp_total) (on_total (λ line. line.x) nat_cmp_total))

pub place_cmp_total : IsTotalOrder place_cmp
place_cmp_total =
    then_total (on_total (λ place. place.frame) nat_cmp_total)
    (then_total (on_total (λ place. place.switch) nat_cmp_total) (on_total (λ place. place.appearance) nat_cmp_total))

pub path_cmp_total : IsTotalOrder path_cmp
path_cmp_total =
    then_total (on_total (λ path. path.line) line_cmp_total)
    (then_total (on_total (λ path. path.channel) nat_cmp_total) (on_total (λ path. path.place) place_cmp_total))

both_equal : (a b : Ordering) → ordering_then a b ≡ Equal → (a ≡ Equal) × (b ≡ Equal)
both_equal Less b e = cc
both_equal Equal b e = (refl, e)
both_equal Greater b e = cc

-- if a comparison by three parts finds no difference, each part compares equal
three_equal : (a b c : Ordering) → ordering_then a (ordering_then b c) ≡ Equal → (a ≡ Equal) × (b ≡ Equal) × (c ≡ Equal)
three_equal a b c e =
    let first = both_equal a (ordering_then b c) e in
    let rest = both_equal b c first.1 in
    (first.0, rest.0, rest.1)

pub exact_line : (a b : Line) → line_cmp a b ≡ Equal → a ≡ b
exact_line a b e =
    let parts = three_equal (nat_cmp a.frame b.frame) (nat_cmp a.switch b.switch) (nat_cmp a.x b.x) e in
    let frame = exact_unsigned a.frame b.frame parts.0 in
    let switch = exact_unsigned a.switch b.switch parts.1 in
    let x = exact_unsigned a.x b.x parts.2 in
    λ i. record { frame = frame i; switch = switch i; x = x i }

pub exact_place : (a b : TrunkPlace) → place_cmp a b ≡ Equal → a ≡ b
exact_place a b e =
    let parts = three_equal (nat_cmp a.frame b.frame) (nat_cmp a.switch b.switch) (nat_cmp a.appearance b.appearance) e in
    let frame = exact_unsigned a.frame b.frame parts.0 in
    let switch = exact_unsigned a.switch b.switch parts.1 in
    let appearance = exact_unsigned a.appearance b.appearance parts.2 in
    λ i. record { frame = frame i; switch = switch i; appearance = appearance i }

-- paths that compare equal are the same
pub exact_path : (p q : Path) → path_cmp p q ≡ Equal → p ≡ q
exact_path p q e =
    let parts = three_equal (line_cmp p.line q.line) (nat_cmp p.channel q.channel) (place_cmp p.place q.place) e in
    let line = exact_line p.line q.line parts.0 in
    let channel = exact_unsigned p.channel q.channel parts.1 in
    let place = exact_place p.place q.place parts.2 in
    λ i. record { line = line i; channel = channel i; place = place i }

-- no path comes before itself
pub never_before_itself : (p : Path) → path_cmp p p ≡ Less → ⊥
never_before_itself p e = clash (path_cmp p p) e (path_cmp_total.antisymm p p) where
  clash : (o : Ordering) → o ≡ Less → o ≡ ordering_reverse o → ⊥
  clash Less a b = cc
  clash Equal a b = cc
  clash Greater a b = cc

-- if p comes after q, q comes before p
pub before_of_after : (p q : Path) → path_cmp p q ≡ Greater → path_cmp q p ≡ Less
before_of_after p q e = path_cmp_total.antisymm q p ∙ ap ordering_reverse e
