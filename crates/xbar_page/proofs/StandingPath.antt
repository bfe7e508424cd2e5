-- Whether one path stands after a turn, by the sets after all turns and by the stays.
use Rattle.std.proofs.Common.{◌≡◌, ℕ, zero, suc, ◌+◌, ◌<◌, List, [], ◌∷◌, Bool, true, false, map, take, refl, ap, ◌∙◌, arith, ◌&&◌, ◌||◌, Some, filter, not}
use Rattle.std.proofs.Common.{slice_get, ◌==◌}
use Rattle.{std.{specs.List.list_all, proofs.lemmas.List.Folds.list_any-append}, xbar_equip.specs.{Len.line_eq, Ten.place_eq, declared.path.Path.Path}}
use Rattle.xbar_equip.proofs.PathTests.{line_eq-exact, place_eq-exact}
use Rattle.xbar_page.specs.Stays.{has_path, is_before, is_same, standing, stands_after, stay_from, stays_from, until}
use Rattle.xbar_page.proofs.Standing.{begun, ended, first_turn, later_turn, none_before, not_ended, shown, standing-append}

pub and_true : (b : Bool) → (b && true) ≡ b
and_true true = refl
and_true false = refl

and_assoc : (a b c : Bool) → (a && (b && c)) ≡ ((a && b) && c)
and_assoc true b c = refl
and_assoc false b c = refl

none_of : (b : Bool) → (b && false) ≡ false
none_of true = refl
none_of false = refl

and_parts : (a b : Bool) → (a && b) ≡ true → (a ≡ true) × (b ≡ true)
and_parts true true both = (refl, refl)
and_parts true false both = absurd cc
and_parts false b both = absurd cc

eq-from_eqb : (a b : ℕ) → (a == b) ≡ true → a ≡ b
eq-from_eqb a b same = grind arith

path_from : (p q : Path) → p.line ≡ q.line → p.channel ≡ q.channel → p.place ≡ q.place → p ≡ q
path_from p q line channel place = λ i. record { line = line i; channel = channel i; place = place i }

module _ (p : Path) where
  same_is : (q : Path) → is_same p q ≡ true → p ≡ q
  same_is q same =
      let parts = and_parts (line_eq p.line q.line && p.channel == q.channel) (place_eq p.place q.place) same in
      let first = and_parts (line_eq p.line q.line) (p.channel == q.channel) parts.0 in
      path_from p q ((line_eq-exact p.line q.line).0 first.0) (eq-from_eqb p.channel q.channel first.1) ((place_eq-exact p.place q.place).0 parts.1)

  -- ---- a test that is the same for the same path

  kept_by : (test : Path → Bool) (q : Path) (qs : List Path) (b s : Bool) → test q ≡ b → is_same p q ≡ s
      → has_path p (filter test qs) ≡ (has_path p qs && test p) → has_path p (filter test (q ∷ qs)) ≡ (has_path p (q ∷ qs) && test p)
  kept_by test q qs true true tested same rest = let own : test p ≡ true = ap test (same_is q same) ∙ tested in rw (tested, same, own) refl
  kept_by test q qs false true tested same rest = let own : test p ≡ false = ap test (same_is q same) ∙ tested in
      rw (tested, same, own) (rest ∙ rw own (none_of (has_path p qs)))
  kept_by test q qs true false tested same rest = rw (tested, same) rest
  kept_by test q qs false false tested same rest = rw (tested, same) rest

  kept : (test : Path → Bool) (qs : List Path) → has_path p (filter test qs) ≡ (has_path p qs && test p)
  kept test [] = refl
  kept test (q ∷ qs) = kept_by test q qs (test q) (is_same p q) refl refl (kept test qs)

  -- ---- the end of a stay

  early_by : (t turn : ℕ) (later : List (List Path)) (b : Bool) (set : List Path) → has_path p set ≡ b → t < turn
      → is_before t (until (turn + 1) p later) ≡ true → is_before t (until turn p (set ∷ later)) ≡ true
  unfolding until
  early_by t turn later true set has early rest = rw has rest
  early_by t turn later false set has early rest = rw has (not_ended t turn early)

  early : (t turn : ℕ) (sets : List (List Path)) → t < turn → is_before t (until turn p sets) ≡ true
  unfolding until
  early t turn [] below = refl
  early t turn (set ∷ later) below = early_by t turn later (has_path p set) set refl below (early t (turn + 1) later (omega arith))

  lasts_by : (j turn : ℕ) (later : List (List Path)) (set : List Path) (b : Bool) → has_path p set ≡ b
      → is_before (turn + suc j) (until (turn + 1 + 1) p later) ≡ list_all (has_path p) (take j later)
      → is_before (turn + suc j) (until (turn + 1) p (set ∷ later)) ≡ list_all (has_path p) (take (suc j) (set ∷ later))
  unfolding until
  lasts_by j turn later set true has rest = rw has rest
  lasts_by j turn later set false has rest = rw has (ended (turn + suc j) (turn + 1) (omega arith))

  -- a stay that begins at a turn goes on as long as each later set has the path
  lasts : (k turn : ℕ) (sets : List (List Path)) → is_before (turn + k) (until (turn + 1) p sets) ≡ list_all (has_path p) (take k sets)
  unfolding until
  lasts zero turn sets = early (turn + zero) (turn + 1) sets (omega arith)
  lasts (suc j) turn [] = refl
  lasts (suc j) turn (set ∷ later) =
      let moved : turn + suc j ≡ turn + 1 + j = omega arith in
      lasts_by j turn later set (has_path p set) refl (rw moved (lasts j (turn + 1) later))

  -- ---- the paths that a turn brings

  brought : (k turn : ℕ) (before now : List Path) (later : List (List Path))
      → has_path p (standing (turn + k) (map (stay_from turn later) (filter (λ path. not (has_path path before)) now)))
      ≡ ((has_path p now && not (has_path p before)) && list_all (has_path p) (take k later))
  brought k turn before now later =
      let new : Path → Bool = λ path. not (has_path path before) in
      let stands : Path → Bool = λ path. stands_after (turn + k) (stay_from turn later path) in
      let own : stands p ≡ list_all (has_path p) (take k later) = rw (begun turn k) (lasts k turn later) in
      ap (has_path p) (shown (turn + k) turn later (filter new now)) ∙ kept stands (filter new now) ∙ ap (λ (b : Bool). b && stands p) (kept new now)
      ∙ ap (λ (b : Bool). (has_path p now && new p) && b) own

  one_more : (j : ℕ) (sets : List (List Path)) (set : List Path) → slice_get sets j ≡ Some set
      → list_all (has_path p) (take (suc j) sets) ≡ (list_all (has_path p) (take j sets) && has_path p set)
  one_more j [] set is = absurd cc
  one_more zero (now ∷ later) set is = let same : now ≡ set = cc in rw same (and_true (has_path p set))
  one_more (suc j) (now ∷ later) set is =
      ap (λ (b : Bool). has_path p now && b) (one_more j later set is) ∙ and_assoc (has_path p now) (list_all (has_path p) (take j later)) (has_path p set)

  -- ---- all of it

  either : (k turn : ℕ) (before now : List Path) (later : List (List Path))
      → has_path p (standing (turn + k) (stays_from turn before (now ∷ later)))
      ≡ (((has_path p now && not (has_path p before)) && list_all (has_path p) (take k later))
      || has_path p (standing (turn + k) (stays_from (turn + 1) now later)))
  unfolding stays_from
  either k turn before now later =
      let brought_now = map (stay_from turn later) (filter (λ path. not (has_path path before)) now) in
      let rest = standing (turn + k) (stays_from (turn + 1) now later) in
      ap (has_path p) (standing-append (turn + k) brought_now (stays_from (turn + 1) now later))
      ∙ list_any-append (is_same p) (standing (turn + k) brought_now) rest
      ∙ ap (λ (b : Bool). b || has_path p rest) (brought k turn before now later)

  -- the stays from a turn on have the path at a set if it is in that set, and didn't stand before and up to it
  pub tells : (k turn : ℕ) (before : List Path) (sets : List (List Path)) (set : List Path) → slice_get sets k ≡ Some set
      → has_path p (standing (turn + k) (stays_from turn before sets)) ≡ (has_path p set && not (has_path p before && list_all (has_path p) (take k sets)))
  tells k turn before [] set is = absurd cc
  tells zero turn before (now ∷ later) set is =
      let same : now ≡ set = cc in
      let none = none_before (turn + zero) (turn + 1) now later (omega arith) in
      either zero turn before now later ∙ rw (none, same) (first_turn (has_path p set) (has_path p before))
  tells (suc j) turn before (now ∷ later) set is =
      let moved : turn + suc j ≡ turn + 1 + j = omega arith in
      let rest : has_path p (standing (turn + suc j) (stays_from (turn + 1) now later))
      ≡ (has_path p set && not (has_path p now && list_all (has_path p) (take j later))) = rw moved (tells j (turn + 1) now later set is) in
      either (suc j) turn before now later ∙ rw (rest, one_more j later set is)
      (later_turn (has_path p now) (has_path p before) (list_all (has_path p) (take j later)) (has_path p set))
