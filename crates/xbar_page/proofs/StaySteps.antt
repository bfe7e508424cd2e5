-- The stays from a turn on: one more turn is done.
use Rattle.std.proofs.Common.{◌≡◌, ℕ, ◌+◌, ◌<◌, List, ◌∷◌, ◌++◌, drop, length, map, slice_index_or, sym, ap, ◌∙◌, append_assoc, filter, not}
use Rattle.{std.proofs.lemmas.List.at_drop_more, xbar_equip.specs.declared.path.Path.Path}
use Rattle.xbar_page.specs.{Stays.{has_path, stay_from, stays_from}, declared.stays.Stay.Stay}

pub next_stays : (sets : List (List Path)) (turn : ℕ) (before now : List Path) (items : List Stay) → now ≡ slice_index_or sets turn now → turn < length sets
    → (items ++ map (stay_from turn (drop (turn + 1) sets)) (filter (λ path. not (has_path path before)) now))
    ++ stays_from (turn + 1) now (drop (turn + 1) sets)
    ≡ items ++ stays_from turn before (drop turn sets)
unfolding stays_from
next_stays sets turn before now items is below =
    append_assoc items (map (stay_from turn (drop (turn + 1) sets)) (filter (λ path. not (has_path path before)) now))
    (stays_from (turn + 1) now (drop (turn + 1) sets))
    ∙ ap (λ (set : List Path). items ++ stays_from turn before (set ∷ drop (turn + 1) sets)) is
    ∙ sym (at_drop_more (λ (left : List (List Path)). items ++ stays_from turn before left) sets turn now below)
