-- the set after a path is removed
use Rattle.std.proofs.Common.{◌≡◌, ◌≢◌, ◌+◌, ◌⊎◌, Bool, true, false, List, [], ◌∷◌, length, inl, inr, refl, sym, ◌∙◌, ap, subst, ◌||◌, not}
use Rattle.std.specs.{List.list_any, Ordering.match_ordering, declared.cmp.Ordering.{Ordering, TheVariants.{Less, Equal, Greater}}}
use Rattle.xbar_equip.specs.{Among.IsIn, Path.path_cmp, Paths.{IsSet, with_path, without_path, is_idle}, declared.path.Path.Path}
use Rattle.xbar_equip.proofs.{Lists.any_passes, PathOrder.{exact_path, never_before_itself, before_of_after}}
use Rattle.xbar_equip.proofs.{PathSets.{with-in, in-with, without-in, in-without, set-with, set-without, same_set}, PathTests.{idle-none, none-idle}}
use Rattle.{xbar_plan.specs.Tables.Tables, xbar_office.{specs.LawfulSet.IsOrderlySet, proofs.AddedPaths.length-with}}

any_without_at : (o : Ordering) (has : Path → Bool) (path p : Path) (paths : List Path) → path_cmp path p ≡ o → has path ≡ false
    → list_any has (without_path paths path) ≡ list_any has paths
    → list_any has (match_ordering o (p ∷ paths) paths (p ∷ without_path paths path)) ≡ list_any has (p ∷ paths)
any_without_at Less has path p paths e other later = refl
any_without_at Equal has path p paths e other later = ap (λ b. b || list_any has paths) (sym other ∙ ap has (exact_path path p e))
any_without_at Greater has path p paths e other later = ap (λ b. has p || b) later

any-without_other : (has : Path → Bool) (paths : List Path) (path : Path) → has path ≡ false → list_any has (without_path paths path) ≡ list_any has paths
any-without_other has [] path other = refl
any-without_other has (p ∷ paths) path other = any_without_at (path_cmp path p) has path p paths refl other (any-without_other has paths path other)

-- what the path does not have is as idle without it as with it
pub idle-without_other : (has : Path → Bool) (paths : List Path) (path : Path) → has path ≡ false → is_idle has (without_path paths path) ≡ is_idle has paths
idle-without_other has paths path other = ap not (any-without_other has paths path other)

-- what is idle stays so without the path
pub idle-without : (has : Path → Bool) (paths : List Path) (path : Path) → IsSet paths → is_idle has paths ≡ true → is_idle has (without_path paths path) ≡ true
idle-without has paths path set idle = idle-none has (without_path paths path) (λ q within. none-idle has paths idle q (without-in paths path q set within).0)

-- what only this path has is idle without it
pub idle-without_own : (has : Path → Bool) (paths : List Path) (path : Path) → IsSet paths → ((q : Path) → IsIn q paths → has q ≡ true → q ≡ path)
    → is_idle has (without_path paths path) ≡ true
idle-without_own has paths path set alone = idle-none has (without_path paths path) (λ q within. of q (has q) refl (without-in paths path q set within)) where
  of : (q : Path) (b : Bool) → has q ≡ b → IsIn q paths × (q ≢ path) → has q ≡ false
  of q false e within = e
  of q true e within = absurd (within.1 (alone q within.0 e))

-- what a path of the set has is not idle
pub busy-in : (has : Path → Bool) (paths : List Path) (path : Path) → IsIn path paths → has path ≡ true → is_idle has paths ≡ false
busy-in has paths path within own = ap not (any_passes has paths path within own)

-- a path that is removed and added again leaves the set as it was
pub with-without : (paths : List Path) (path : Path) → IsSet paths → IsIn path paths → with_path (without_path paths path) path ≡ paths
with-without paths path set own =
    same_set (with_path (without_path paths path) path) paths (set-with (without_path paths path) path (set-without paths path set)) set
    (λ q. (back q, forth q)) where
      back : (q : Path) → IsIn q (with_path (without_path paths path) path) → IsIn q paths
      back q within = elim (with-in (without_path paths path) path q within) [
        | inl same ↦ subst (λ (x : Path). IsIn x paths) (sym same) own
        | inr there ↦ (without-in paths path q set there).0
      ]

      by_order : (q : Path) (o : Ordering) → path_cmp q path ≡ o → IsIn q paths → (q ≡ path) ⊎ IsIn q (without_path paths path)
      by_order q Less e within = inr (in-without paths path q within (λ same. never_before_itself path (subst (λ (x : Path). path_cmp x path ≡ Less) same e)))
      by_order q Equal e within = inl (exact_path q path e)
      by_order q Greater e within =
          inr (in-without paths path q within (λ same. never_before_itself path
          (before_of_after path path (subst (λ (x : Path). path_cmp x path ≡ Greater) same e))))

      forth : (q : Path) → IsIn q paths → IsIn q (with_path (without_path paths path) path)
      forth q within = in-with (without_path paths path) path q (by_order q (path_cmp q path) refl within)

-- removing a path of the set makes the set shorter by one
pub length-without : (paths : List Path) (path : Path) → IsSet paths → IsIn path paths → length paths ≡ length (without_path paths path) + 1
length-without paths path set own =
    ap (λ (p : List Path). length p) (sym (with-without paths path set own))
    ∙ length-with (without_path paths path) path (λ within. (without-in paths path path set within).1 refl)

-- removing a path leaves an orderly set orderly
pub orderly-without : (plan : Tables) (paths : List Path) (path : Path) → IsOrderlySet plan paths → IsOrderlySet plan (without_path paths path)
orderly-without plan paths path orderly = record {
  set = set-without paths path orderly.set;
  ranges = λ q within. orderly.ranges q (without-in paths path q orderly.set within).0;
  places = λ q within. orderly.places q (without-in paths path q orderly.set within).0;
  apart = λ p q in_p in_q. orderly.apart p q (without-in paths path p orderly.set in_p).0 (without-in paths path q orderly.set in_q).0;
}
