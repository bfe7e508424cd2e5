use Rattle.std.proofs.Common.{◌≡◌, ◌+◌, Bool, true, false, List, [], ◌∷◌, length, inl, inr, refl, sym, ◌∙◌, ap, arith, true≢false, ◌&&◌, ◌||◌, not}
use Rattle.std.specs.{List.list_any, Ordering.match_ordering, declared.cmp.Ordering.{Ordering, TheVariants.{Less, Equal, Greater}}}
use Rattle.xbar_equip.specs.{Among.IsIn, Path.path_cmp, Paths.{with_path, is_idle}, declared.path.Path.Path}
use Rattle.xbar_equip.proofs.{Logic.{and_true, and_false}, PathOrder.exact_path, PathTests.none-idle}

turned : (a b c : Bool) → (a || (b || c)) ≡ (b || (a || c))
turned true true c = refl
turned true false c = refl
turned false b c = refl

twice : (a c : Bool) → (a || c) ≡ (a || (a || c))
twice true c = refl
twice false c = refl

any_with_at : (o : Ordering) (has : Path → Bool) (path p : Path) (paths : List Path) → path_cmp path p ≡ o
    → list_any has (with_path paths path) ≡ (has path || list_any has paths)
    → list_any has (match_ordering o (path ∷ p ∷ paths) (p ∷ paths) (p ∷ with_path paths path)) ≡ (has path || list_any has (p ∷ paths))
any_with_at Less has path p paths e later = refl
any_with_at Equal has path p paths e later =
    twice (has p) (list_any has paths) ∙ ap (λ (x : Path). has x || (has p || list_any has paths)) (sym (exact_path path p e))
any_with_at Greater has path p paths e later = ap (λ b. has p || b) later ∙ turned (has p) (has path) (list_any has paths)

-- a path of the set with this path added has it if this path has it or one of the set has it
pub any-with : (has : Path → Bool) (paths : List Path) (path : Path) → list_any has (with_path paths path) ≡ (has path || list_any has paths)
any-with has [] path = refl
any-with has (p ∷ paths) path = any_with_at (path_cmp path p) has path p paths refl (any-with has paths path)

neither : (a b : Bool) → not (a || b) ≡ (not b && not a)
neither true true = refl
neither true false = refl
neither false true = refl
neither false false = refl

-- what is idle in the set with a path added is idle in the set, and is not the path's
pub idle-with : (has : Path → Bool) (paths : List Path) (path : Path) → is_idle has (with_path paths path) ≡ (is_idle has paths && not (has path))
idle-with has paths path = ap not (any-with has paths path) ∙ neither (has path) (list_any has paths)

-- what the path does not have is as idle with it as without it
pub idle-with_other : (has : Path → Bool) (paths : List Path) (path : Path) → has path ≡ false → is_idle has (with_path paths path) ≡ is_idle has paths
idle-with_other has paths path other = idle-with has paths path ∙ ap (λ b. is_idle has paths && not b) other ∙ and_true (is_idle has paths)

-- what the path has is not idle with it
pub idle-with_own : (has : Path → Bool) (paths : List Path) (path : Path) → has path ≡ true → is_idle has (with_path paths path) ≡ false
idle-with_own has paths path own = idle-with has paths path ∙ ap (λ b. is_idle has paths && not b) own ∙ and_false (is_idle has paths)

-- a path that has what is idle in the set is not in the set
pub not_of_set : (has : Path → Bool) (paths : List Path) (path : Path) → is_idle has paths ≡ true → has path ≡ true → IsIn path paths → ⊥
not_of_set has paths path idle own within = true≢false (sym own ∙ none-idle has paths idle path within)

length_with_at : (o : Ordering) (path p : Path) (paths : List Path) → path_cmp path p ≡ o → (path ≡ p → ⊥) → length (with_path paths path) ≡ length paths + 1
    → length (match_ordering o (path ∷ p ∷ paths) (p ∷ paths) (p ∷ with_path paths path)) ≡ length (p ∷ paths) + 1
length_with_at Less path p paths e other later = omega arith
length_with_at Equal path p paths e other later = absurd (other (exact_path path p e))
length_with_at Greater path p paths e other later = omega (arith, later)

-- a path that is not in the set makes it longer by one
pub length-with : (paths : List Path) (path : Path) → (IsIn path paths → ⊥) → length (with_path paths path) ≡ length paths + 1
length-with [] path new = refl
length-with (p ∷ paths) path new =
    length_with_at (path_cmp path p) path p paths refl (λ same. new (inl same)) (length-with paths path (λ within. new (inr within)))
