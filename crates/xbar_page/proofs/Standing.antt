-- The paths that stand after a turn, by the sets after all turns and by the stays.
use Rattle.std.proofs.Common.{◌≡◌, ℕ, ◌+◌, ◌<◌, ◌≤◌, List, [], ◌∷◌, ◌++◌, Bool, true, false, map, refl, ap, ◌∙◌, arith, ◌&&◌, ◌||◌, filter, nat_le, nat_lt, not}
use Rattle.{std.proofs.lemmas.List.{map-append, Elements.filter-append}, xbar_equip.specs.declared.path.Path.Path}
use Rattle.xbar_page.specs.{Stays.{has_path, standing, stands_after, stay_from, stays_from}, declared.stays.Stay.Stay}

-- ---- tests

pub begun : (turn k : ℕ) → nat_le turn (turn + k) ≡ true
begun turn k = grind arith

not_begun : (t turn : ℕ) → t < turn → nat_le turn t ≡ false
not_begun t turn early = grind arith

pub not_ended : (t turn : ℕ) → t < turn → nat_lt t turn ≡ true
not_ended t turn early = grind arith

pub ended : (t turn : ℕ) → turn ≤ t → nat_lt t turn ≡ false
ended t turn late = grind arith

pub first_turn : (a b : Bool) → (((a && not b) && true) || false) ≡ (a && not (b && true))
first_turn true true = refl
first_turn true false = refl
first_turn false b = refl

pub later_turn : (a b c h : Bool) → (((a && not b) && (c && h)) || (h && not (a && c))) ≡ (h && not (b && (a && c)))
later_turn true true true true = refl
later_turn true true true false = refl
later_turn true true false true = refl
later_turn true true false false = refl
later_turn true false true true = refl
later_turn true false true false = refl
later_turn true false false true = refl
later_turn true false false false = refl
later_turn false true c true = refl
later_turn false true c false = refl
later_turn false false c true = refl
later_turn false false c false = refl

-- ---- stays one after another

pub standing-append : (t : ℕ) (xs ys : List Stay) → standing t (xs ++ ys) ≡ standing t xs ++ standing t ys
standing-append t xs ys =
    ap (map (λ (stay : Stay). stay.path)) (filter-append (stands_after t) xs ys)
    ∙ map-append (λ (stay : Stay). stay.path) (filter (stands_after t) xs) (filter (stands_after t) ys)

shown_by : (t turn : ℕ) (later : List (List Path)) (q : Path) (qs : List Path) (b : Bool) → stands_after t (stay_from turn later q) ≡ b
    → standing t (map (stay_from turn later) qs) ≡ filter (λ path. stands_after t (stay_from turn later path)) qs
    → standing t (map (stay_from turn later) (q ∷ qs)) ≡ filter (λ path. stands_after t (stay_from turn later path)) (q ∷ qs)
shown_by t turn later q qs true is same = rw is (ap (λ (paths : List Path). q ∷ paths) same)
shown_by t turn later q qs false is same = rw is same

-- the paths that stand, of those that a turn brings
pub shown : (t turn : ℕ) (later : List (List Path)) (qs : List Path)
    → standing t (map (stay_from turn later) qs) ≡ filter (λ path. stands_after t (stay_from turn later path)) qs
shown t turn later [] = refl
shown t turn later (q ∷ qs) = shown_by t turn later q qs (stands_after t (stay_from turn later q)) refl (shown t turn later qs)

none_yet : (t turn : ℕ) (later : List (List Path)) (qs : List Path) → nat_le turn t ≡ false → standing t (map (stay_from turn later) qs) ≡ []
none_yet t turn later [] early = refl
none_yet t turn later (q ∷ qs) early = rw early (none_yet t turn later qs early)

-- no path stands before the turn that brings it
pub none_before : (t turn : ℕ) (before : List Path) (sets : List (List Path)) → t < turn → standing t (stays_from turn before sets) ≡ []
unfolding stays_from
none_before t turn before [] early = refl
none_before t turn before (now ∷ later) early =
    let brought = map (stay_from turn later) (filter (λ path. not (has_path path before)) now) in
    standing-append t brought (stays_from (turn + 1) now later)
    ∙ ap (λ (paths : List Path). paths ++ standing t (stays_from (turn + 1) now later)) (none_yet t turn later _ (not_begun t turn early))
    ∙ none_before t (turn + 1) now later (omega arith)
