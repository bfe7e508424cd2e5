use Rattle.std.proofs.Common.{◌≡◌, ◌≢◌, ◌⊎◌, List, [], ◌∷◌, inl, inr, refl, sym, ◌∙◌, ap, subst, ◌↔◌}
use Rattle.std.specs.{Ordering.match_ordering, declared.cmp.Ordering.{Ordering, TheVariants.{Less, Equal, Greater}}}
use Rattle.xbar_equip.specs.{Among.IsIn, Path.path_cmp, Paths.{IsSet, IsBeforeAll, with_path, without_path}, declared.path.Path.Path}
use Rattle.xbar_equip.proofs.PathOrder.{path_cmp_total, exact_path, never_before_itself, before_of_after}

-- a path that comes before all of a list comes before each of its items
pub before-in : (p : Path) (paths : List Path) (q : Path) → IsBeforeAll p paths → IsIn q paths → path_cmp p q ≡ Less
before-in p [] q before within = absurd within
before-in p (r ∷ paths) q before (inl e) = ap (path_cmp p) e ∙ before.0
before-in p (r ∷ paths) q before (inr within) = before-in p paths q before.1 within

-- a path that comes before q comes before all that q comes before
pub before-trans : (p q : Path) (paths : List Path) → path_cmp p q ≡ Less → IsBeforeAll q paths → IsBeforeAll p paths
before-trans p q [] less before = tt
before-trans p q (r ∷ paths) less before = (path_cmp_total.trans p q r less before.0, before-trans p q paths less before.1)

-- a path that comes before all of a list is not in it
pub before-apart : (p : Path) (paths : List Path) → IsBeforeAll p paths → IsIn p paths → ⊥
before-apart p paths before within = never_before_itself p (before-in p paths p before within)

-- the paths of a set with one more
with_at : (o : Ordering) (path p q : Path) (paths : List Path) → path_cmp path p ≡ o → (IsIn q (with_path paths path) → (q ≡ path) ⊎ IsIn q paths)
    → IsIn q (match_ordering o (path ∷ p ∷ paths) (p ∷ paths) (p ∷ with_path paths path)) → (q ≡ path) ⊎ IsIn q (p ∷ paths)
with_at Less path p q paths e later within = within
with_at Equal path p q paths e later within = inr within
with_at Greater path p q paths e later (inl here) = inr (inl here)
with_at Greater path p q paths e later (inr within) = elim (later within) [ inl here ↦ inl here | inr there ↦ inr (inr there) ]

pub with-in : (paths : List Path) (path q : Path) → IsIn q (with_path paths path) → (q ≡ path) ⊎ IsIn q paths
with-in [] path q within = within
with-in (p ∷ paths) path q within = with_at (path_cmp path p) path p q paths refl (with-in paths path q) within

in_with_at : (o : Ordering) (path p q : Path) (paths : List Path) → path_cmp path p ≡ o → ((q ≡ path) ⊎ IsIn q paths → IsIn q (with_path paths path))
    → (q ≡ path) ⊎ IsIn q (p ∷ paths) → IsIn q (match_ordering o (path ∷ p ∷ paths) (p ∷ paths) (p ∷ with_path paths path))
in_with_at Less path p q paths e later within = within
in_with_at Equal path p q paths e later (inl here) = inl (here ∙ exact_path path p e)
in_with_at Equal path p q paths e later (inr within) = within
in_with_at Greater path p q paths e later (inl here) = inr (later (inl here))
in_with_at Greater path p q paths e later (inr (inl first)) = inl first
in_with_at Greater path p q paths e later (inr (inr within)) = inr (later (inr within))

pub in-with : (paths : List Path) (path q : Path) → (q ≡ path) ⊎ IsIn q paths → IsIn q (with_path paths path)
in-with [] path q within = within
in-with (p ∷ paths) path q within = in_with_at (path_cmp path p) path p q paths refl (in-with paths path q) within

-- a path that comes before another path and before all of a list comes before all of the list with
-- that path added
before_with_at : (o : Ordering) (first path p : Path) (paths : List Path) → path_cmp first path ≡ Less → IsBeforeAll first (p ∷ paths)
    → IsBeforeAll first (with_path paths path) → IsBeforeAll first (match_ordering o (path ∷ p ∷ paths) (p ∷ paths) (p ∷ with_path paths path))
before_with_at Less first path p paths less before later = (less, before)
before_with_at Equal first path p paths less before later = before
before_with_at Greater first path p paths less before later = (before.0, later)

before-with : (first path : Path) (paths : List Path) → path_cmp first path ≡ Less → IsBeforeAll first paths → IsBeforeAll first (with_path paths path)
before-with first path [] less before = (less, tt)
before-with first path (p ∷ paths) less before = before_with_at (path_cmp path p) first path p paths less before (before-with first path paths less before.1)

set_with_at : (o : Ordering) (path p : Path) (paths : List Path) → path_cmp path p ≡ o → IsSet (p ∷ paths) → IsSet (with_path paths path)
    → IsSet (match_ordering o (path ∷ p ∷ paths) (p ∷ paths) (p ∷ with_path paths path))
set_with_at Less path p paths e set later = ((e, before-trans path p paths e set.0), set)
set_with_at Equal path p paths e set later = set
set_with_at Greater path p paths e set later = (before-with p path paths (before_of_after path p e) set.0, later)

-- a set with a path is a set
pub set-with : (paths : List Path) (path : Path) → IsSet paths → IsSet (with_path paths path)
set-with [] path set = (tt, tt)
set-with (p ∷ paths) path set = set_with_at (path_cmp path p) path p paths refl set (set-with paths path set.1)

-- the paths of a set without one
without_at : (o : Ordering) (path p q : Path) (paths : List Path) → path_cmp path p ≡ o → IsSet (p ∷ paths)
    → (IsIn q (without_path paths path) → IsIn q paths × (q ≢ path)) → IsIn q (match_ordering o (p ∷ paths) paths (p ∷ without_path paths path))
    → IsIn q (p ∷ paths) × (q ≢ path)
without_at Less path p q paths e set later within =
    (within, λ same. before-apart path (p ∷ paths) (e, before-trans path p paths e set.0) (subst (λ (x : Path). IsIn x (p ∷ paths)) same within))
without_at Equal path p q paths e set later within =
    (inr within, λ same. before-apart p paths set.0 (subst (λ (x : Path). IsIn x paths) (same ∙ exact_path path p e) within))
without_at Greater path p q paths e set later (inl first) =
    (inl first, λ same. never_before_itself p (ap (path_cmp p) (sym first ∙ same) ∙ before_of_after path p e))
without_at Greater path p q paths e set later (inr within) = let rest = later within in (inr rest.0, rest.1)

pub without-in : (paths : List Path) (path q : Path) → IsSet paths → IsIn q (without_path paths path) → IsIn q paths × (q ≢ path)
without-in [] path q set within = absurd within
without-in (p ∷ paths) path q set within = without_at (path_cmp path p) path p q paths refl set (without-in paths path q set.1) within

in_without_at : (o : Ordering) (path p q : Path) (paths : List Path) → path_cmp path p ≡ o → (IsIn q paths → IsIn q (without_path paths path)) → q ≢ path
    → IsIn q (p ∷ paths) → IsIn q (match_ordering o (p ∷ paths) paths (p ∷ without_path paths path))
in_without_at Less path p q paths e later other within = within
in_without_at Equal path p q paths e later other (inl first) = absurd (other (first ∙ sym (exact_path path p e)))
in_without_at Equal path p q paths e later other (inr within) = within
in_without_at Greater path p q paths e later other (inl first) = inl first
in_without_at Greater path p q paths e later other (inr within) = inr (later within)

pub in-without : (paths : List Path) (path q : Path) → IsIn q paths → q ≢ path → IsIn q (without_path paths path)
in-without [] path q within other = absurd within
in-without (p ∷ paths) path q within other = in_without_at (path_cmp path p) path p q paths refl (λ there. in-without paths path q there other) other within

before_without_at : (o : Ordering) (first path p : Path) (paths : List Path) → IsBeforeAll first (p ∷ paths) → IsBeforeAll first (without_path paths path)
    → IsBeforeAll first (match_ordering o (p ∷ paths) paths (p ∷ without_path paths path))
before_without_at Less first path p paths before later = before
before_without_at Equal first path p paths before later = before.1
before_without_at Greater first path p paths before later = (before.0, later)

before-without : (first path : Path) (paths : List Path) → IsBeforeAll first paths → IsBeforeAll first (without_path paths path)
before-without first path [] before = tt
before-without first path (p ∷ paths) before = before_without_at (path_cmp path p) first path p paths before (before-without first path paths before.1)

set_without_at : (o : Ordering) (path p : Path) (paths : List Path) → IsSet (p ∷ paths) → IsSet (without_path paths path)
    → IsSet (match_ordering o (p ∷ paths) paths (p ∷ without_path paths path))
set_without_at Less path p paths set later = set
set_without_at Equal path p paths set later = set.1
set_without_at Greater path p paths set later = (before-without p path paths set.0, later)

-- a set without a path is a set
pub set-without : (paths : List Path) (path : Path) → IsSet paths → IsSet (without_path paths path)
set-without [] path set = tt
set-without (p ∷ paths) path set = set_without_at (path_cmp path p) path p paths set (set-without paths path set.1)

-- the first paths of two sets with the same paths are the same
firsts : (p q : Path) (a b : List Path) → IsBeforeAll p a → IsBeforeAll q b → IsIn p (q ∷ b) → IsIn q (p ∷ a) → p ≡ q
firsts p q a b before_a before_b (inl same) there = same
firsts p q a b before_a before_b (inr later) (inl same) = sym same
firsts p q a b before_a before_b (inr later) (inr earlier) =
    absurd (never_before_itself p (path_cmp_total.trans p q p (before-in p a q before_a earlier) (before-in q b p before_b later)))

-- if two sets have the same first path, a later path of the one that is in the other is a later
-- path there
in_rest : (p q x : Path) (a b : List Path) → p ≡ q → IsBeforeAll p a → IsIn x a → IsIn x (q ∷ b) → IsIn x b
in_rest p q x a b same before within (inl first) = absurd (before-apart p a before (subst (λ (y : Path). IsIn y a) (first ∙ sym same) within))
in_rest p q x a b same before within (inr there) = there

-- two sets with the same paths are the same list
pub same_set : (a b : List Path) → IsSet a → IsSet b → ((x : Path) → IsIn x a ↔ IsIn x b) → a ≡ b
same_set [] [] set_a set_b same = refl
same_set [] (q ∷ b) set_a set_b same = absurd ((same q).1 (inl refl))
same_set (p ∷ a) [] set_a set_b same = absurd ((same p).0 (inl refl))
same_set (p ∷ a) (q ∷ b) set_a set_b same =
    let first : p ≡ q = firsts p q a b set_a.0 set_b.0 ((same p).0 (inl refl)) ((same q).1 (inl refl)) in
    let rest : a ≡ b = same_set a b set_a.1 set_b.1 (λ x. (
      λ within. in_rest p q x a b first set_a.0 within ((same x).0 (inr within)),
      λ within. in_rest q p x b a (sym first) set_b.0 within ((same x).1 (inr within)),
    )) in
    λ i. first i ∷ rest i
