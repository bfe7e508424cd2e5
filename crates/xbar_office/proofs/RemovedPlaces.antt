-- a path that is at an index of the list is removed there
use Rattle.std.proofs.Common.{◌≡◌, ℕ, suc, ◌<◌, List, ◌∷◌, ◌++◌, length, take, drop, get_or, sym, ◌∙◌, ap, drop-cons, remove}
use Rattle.std.specs.{Ordering.match_ordering, declared.cmp.Ordering.{Ordering, TheVariants.Equal}}
use Rattle.xbar_equip.specs.{Path.path_cmp, Paths.without_path, declared.path.Path.Path}

pub removed_at : (paths : List Path) (path p : Path) (at : ℕ) → at < length paths → p ≡ get_or paths at p → path_cmp path p ≡ Equal
    → without_path paths path ≡ take at paths ++ without_path (drop at paths) path → without_path paths path ≡ remove paths at
removed_at paths path p at below is same before =
    before
    ∙ ap (λ (rest : List Path). take at paths ++ without_path rest path) (drop-cons paths at p below ∙ ap (λ (q : Path). q ∷ drop (suc at) paths) (sym is))
    ∙ ap (λ (o : Ordering). take at paths ++ match_ordering o (p ∷ drop (suc at) paths) (drop (suc at) paths) (p ∷ without_path (drop (suc at) paths) path))
    same
