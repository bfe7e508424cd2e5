use Rattle.std.proofs.Common.{◌≡◌, List, [], ◌∷◌, ◌++◌, inl, inr, refl, sym, ap, subst, ◌+◌, ◌*◌, drop, arith}
use Rattle.xbar_equip.specs.{Among.IsIn, Path.IsPath, Crosspoint.crosspoints, Paths.{IsSet, AreApart}, declared.path.Path.Path}
use Rattle.xbar_equip.{specs.declared.crosspoint.Crosspoint.Crosspoint, proofs.{Lists.in_either, Meeting.meet, PathSets.before-apart}}
use Rattle.xbar_office.specs.Closed.{closed, NamesFieldsOnce}

-- two lists that name each field at most once, and no field in both
once_append : (xs ys : List Crosspoint) → NamesFieldsOnce xs → NamesFieldsOnce ys
    → ((c d : Crosspoint) → IsIn c xs → IsIn d ys → c.word ≡ d.word → c.field ≡ d.field → ⊥) → NamesFieldsOnce (xs ++ ys)
once_append [] ys once_x once_y across = once_y
once_append (x ∷ xs) ys once_x once_y across = (
  λ d within. elim (in_either d xs ys within) [ inl front ↦ once_x.0 d front | inr back ↦ across x d (inl refl) back ],
  once_append xs ys once_x.1 once_y (λ c d in_x in_y. across c d (inr in_x) in_y),
)

-- a crosspoint of a set belongs to one of its paths
record OfPath (c : Crosspoint) (paths : List Path) : Type 0 where
  path : Path
  within : IsIn path paths
  own : IsIn c (crosspoints path)

of_path : (c : Crosspoint) (paths : List Path) → IsIn c (closed paths) → OfPath c paths
of_path c [] within = absurd within
of_path c (p ∷ paths) within = elim (in_either c (crosspoints p) (closed paths) within) [
  | inl own ↦ record { path = p; within = inl refl; own = own }
  | inr later ↦ let of = of_path c paths later in record { path = of.path; within = inr of.within; own = of.own }
]

-- the crosspoints of a path after the first, the second and the third
abbrev after_first : Path → List Crosspoint
after_first p = drop 1 (crosspoints p)

abbrev after_second : Path → List Crosspoint
after_second p = drop 2 (crosspoints p)

abbrev after_third : Path → List Crosspoint
after_third p = drop 3 (crosspoints p)

module _ (p : Path) (in_range : IsPath p) where
  number : (d e : Crosspoint) → d ≡ e → d.word ≡ e.word
  number d e same = ap (λ (x : Crosspoint). x.word) same

  line_switch_alone : (d : Crosspoint) → IsIn d (after_first p) → 20 * p.line.frame + p.line.switch ≡ d.word → ⊥
  line_switch_alone d (inl e) word = omega (arith, number d _ e, in_range.line.switch)
  line_switch_alone d (inr (inl e)) word = omega (arith, number d _ e, in_range.line.frame, in_range.line.switch)
  line_switch_alone d (inr (inr (inl e))) word = omega (arith, number d _ e, in_range.line.frame, in_range.line.switch)
  line_switch_alone d (inr (inr (inr none))) word = none

  line_junctor_alone : (d : Crosspoint) → IsIn d (after_second p) → 20 * p.line.frame + 10 + p.channel ≡ d.word → ⊥
  line_junctor_alone d (inl e) word = omega (arith, number d _ e, in_range.line.frame, in_range.channel)
  line_junctor_alone d (inr (inl e)) word = omega (arith, number d _ e, in_range.line.frame, in_range.channel)
  line_junctor_alone d (inr (inr none)) word = none

  trunk_junctor_alone : (d : Crosspoint) → IsIn d (after_third p) → 200 + 20 * p.place.frame + 10 + p.channel ≡ d.word → ⊥
  trunk_junctor_alone d (inl e) word = omega (arith, number d _ e, in_range.place.switch)
  trunk_junctor_alone d (inr none) word = none

  -- a path's four crosspoints are in four words
  once_path : NamesFieldsOnce (crosspoints p)
  once_path = (
    λ d within word field. line_switch_alone d within word,
    (
      λ d within word field. line_junctor_alone d within word,
      (
        λ d within word field. trunk_junctor_alone d within word,
        (λ d within word field. within, tt),
      ),
    ),
  )

-- a set that an office may have names each field at most once
pub once_closed : (paths : List Path) → IsSet paths → AreApart paths → ((p : Path) → IsIn p paths → IsPath p) → NamesFieldsOnce (closed paths)
once_closed [] set apart in_range = tt
once_closed (p ∷ paths) set apart in_range =
    once_append (crosspoints p) (closed paths) (once_path p (in_range p (inl refl)))
    (once_closed paths set.1 (λ a b in_a in_b. apart a b (inr in_a) (inr in_b)) (λ q within. in_range q (inr within)))
    (λ c d in_c in_d word field.
    let of = of_path d paths in_d in
    let shares = meet p of.path c d (in_range p (inl refl)) (in_range of.path (inr of.within)) in_c of.own word field in
    let same = apart p of.path (inl refl) (inr of.within) shares in
    before-apart p paths set.0 (subst (λ (x : Path). IsIn x paths) (sym same) of.within))
