-- how items are cut into runs
use Rattle.std.proofs.Common.{◌≡◌, ℕ, suc, ◌-◌, ◌<◌, ◌≤◌, Bool, true, false, List, [], ◌∷◌, ◌++◌, append-nil, get_or, inl, inr, length, refl, sym, ◌∙◌, ap}
use Rattle.std.proofs.Common.{subst, arith, ◌&&◌, All, flat_map, map, if◌then◌else◌}
use Rattle.std.{specs.List.AllByRecursion, proofs.lemmas.{List.Elements.All-from_recursion, Grind.flat_map-append}}
use Rattle.xbar_walk.specs.Items.{IsRun, Item, Says, Tests, before_runs, in_first, item_lines, joins, joins_first, run_lines, runs_of, tests_of, walk_text_of}
use Rattle.xbar_walk.specs.Rows.{are_joined, goes_on, is_short, last_of, leads, shares_line, row_line, tests_line, tests_text, test_line}
use Rattle.xbar_walk.specs.declared.{detail.Detail.Detail, rows.Tested.Tested}

-- whether an item shares the line of the last of these items
abbrev pub last_joins : Detail → List Item → Item → Bool
last_joins detail [] next = false
last_joins detail (item ∷ []) next = joins detail item next
last_joins detail (item ∷ more ∷ later) next = last_joins detail (more ∷ later) next

-- an item begins the first run
begun_by : (detail : Detail) (item : Item) (later : List Item)
    → (rest : List Item) × (runs : List (List Item)) × (runs_of detail (item ∷ later) ≡ (item ∷ rest) ∷ runs)
unfolding runs_of
begun_by detail item later = by (joins_first detail item later) (runs_of detail later) where
  by : (joined : Bool) (runs : List (List Item)) → (rest : List Item) × (more : List (List Item)) × (before_runs joined item runs ≡ (item ∷ rest) ∷ more)
  by true [] = ([], [], refl)
  by true (run ∷ runs) = (run, runs, refl)
  by false runs = ([], runs, refl)

-- runs before others
before_more : (joined : Bool) (item : Item) (run : List Item) (runs more : List (List Item))
    → before_runs joined item ((run ∷ runs) ++ more) ≡ before_runs joined item (run ∷ runs) ++ more
before_more true item run runs more = refl
before_more false item run runs more = refl

-- if an item doesn't share the line of the one before it, a run ends there
pub cut : (detail : Detail) (items : List Item) (next : Item) (later : List Item) → last_joins detail items next ≡ false
    → runs_of detail (items ++ next ∷ later) ≡ runs_of detail items ++ runs_of detail (next ∷ later)
unfolding runs_of
cut detail [] next later parted = refl
cut detail (item ∷ []) next later parted = ap (λ (b : Bool). before_runs b item (runs_of detail (next ∷ later))) parted
cut detail (item ∷ more ∷ items) next later parted =
    let first = begun_by detail more items in
    ap (before_runs (joins detail item more) item) (cut detail (more ∷ items) next later parted)
    ∙ ap (λ (runs : List (List Item)). before_runs (joins detail item more) item (runs ++ runs_of detail (next ∷ later))) first.2
    ∙ before_more (joins detail item more) item (more ∷ first.0) first.1 (runs_of detail (next ∷ later))
    ∙ ap (λ (runs : List (List Item)). before_runs (joins detail item more) item runs ++ runs_of detail (next ∷ later)) (sym first.2)

pub text_cut : (detail : Detail) (items : List Item) (next : Item) (later : List Item) → last_joins detail items next ≡ false
    → walk_text_of detail (items ++ next ∷ later) ≡ walk_text_of detail items ++ walk_text_of detail (next ∷ later)
unfolding walk_text_of
text_cut detail items next later parted =
    ap (flat_map run_lines) (cut detail items next later parted)
    ∙ flat_map-append run_lines (runs_of detail items) (runs_of detail (next ∷ later))

-- lines that are no test are a run of their own
no_test_joins : (detail : Detail) (items : List Item) (lines : List ℕ) → last_joins detail items (Says lines) ≡ false
no_test_joins detail [] lines = refl
no_test_joins detail (Tests tested ∷ []) lines = refl
no_test_joins detail (Says other ∷ []) lines = refl
no_test_joins detail (item ∷ more ∷ items) lines = no_test_joins detail (more ∷ items) lines

pub said_first : (detail : Detail) (lines : List ℕ) (later : List Item) → walk_text_of detail (Says lines ∷ later) ≡ lines ++ walk_text_of detail later
unfolding walk_text_of runs_of run_lines
said_first detail lines [] = refl
said_first detail lines (next ∷ later) = refl

pub said_between : (detail : Detail) (items : List Item) (lines : List ℕ) (later : List Item)
    → walk_text_of detail (items ++ Says lines ∷ later) ≡ walk_text_of detail items ++ (lines ++ walk_text_of detail later)
said_between detail items lines later =
    text_cut detail items (Says lines) later (no_test_joins detail items lines)
    ∙ ap (λ (text : List ℕ). walk_text_of detail items ++ text) (said_first detail lines later)

-- tests that go on with one another
and_parts : (a b : Bool) → (a && b) ≡ true → (a ≡ true) × (b ≡ true)
and_parts true b e = (refl, e)
and_parts false b e = absurd cc

and_both : (a b : Bool) → a ≡ true → b ≡ true → (a && b) ≡ true
and_both a b first second = ap (λ (x : Bool). x && b) first ∙ second

-- the last of them is the last of these items
leads_is : (detail : Detail) (first : Tested) (later : List Tested) (tested : Tested)
    → last_joins detail (map Tests (first ∷ later)) (Tests tested) ≡ shares_line detail (first ∷ later) tested
unfolding last_of
leads_is detail first [] tested = refl
leads_is detail first (next ∷ later) tested = leads_is detail next later tested

pub leads_by_items : (detail : Detail) (tests : List Tested) (tested : Tested)
    → last_joins detail (map Tests tests) (Tests tested) ≡ shares_line detail tests tested
leads_by_items detail [] tested = refl
leads_by_items detail (first ∷ later) tested = leads_is detail first later tested

-- and one more goes on with them
pub one_joined : (detail : Detail) (tests : List Tested) (tested : Tested) → are_joined detail tests ≡ true → shares_line detail tests tested ≡ true
    → are_joined detail (tests ++ tested ∷ []) ≡ true
unfolding last_of
one_joined detail [] tested joined leads = absurd cc
one_joined detail (first ∷ []) tested joined leads = and_both (is_short detail && goes_on first tested) true leads refl
one_joined detail (first ∷ next ∷ later) tested joined leads =
    let parts = and_parts (is_short detail && goes_on first next) (are_joined detail (next ∷ later)) joined in
    and_both (is_short detail && goes_on first next) (are_joined detail (next ∷ later ++ tested ∷ [])) parts.0
    (one_joined detail (next ∷ later) tested parts.1 leads)

pub alone_joined : (detail : Detail) (tested : Tested) → are_joined detail (tested ∷ []) ≡ true
alone_joined detail tested = refl

-- they are a run
one_run : (detail : Detail) (first : Tested) (later : List Tested) → are_joined detail (first ∷ later) ≡ true
    → runs_of detail (map Tests (first ∷ later)) ≡ map Tests (first ∷ later) ∷ []
unfolding runs_of
one_run detail first [] joined = refl
one_run detail first (next ∷ later) joined =
    let parts = and_parts (is_short detail && goes_on first next) (are_joined detail (next ∷ later)) joined in
    ap (λ (b : Bool). before_runs b (Tests first) (runs_of detail (map Tests (next ∷ later)))) parts.0
    ∙ ap (in_first (Tests first)) (one_run detail next later parts.1)

tests_back : (tests : List Tested) → flat_map tests_of (map Tests tests) ≡ tests
tests_back [] = refl
tests_back (tested ∷ tests) = ap (λ (later : List Tested). tested ∷ later) (tests_back tests)

-- so their text is one line
pub joined_text : (detail : Detail) (tests : List Tested) → are_joined detail tests ≡ true → walk_text_of detail (map Tests tests) ≡ tests_text tests
unfolding walk_text_of runs_of run_lines
joined_text detail [] joined = refl
joined_text detail (first ∷ later) joined =
    ap (flat_map run_lines) (one_run detail first later joined)
    ∙ append-nil (tests_line first (flat_map tests_of (map Tests later)))
    ∙ ap (tests_line first) (tests_back later)

-- one after another, the runs are the items, in order
pub runs_are_items : (detail : Detail) (items : List Item) → flat_map (λ (run : List Item). run) (runs_of detail items) ≡ items
unfolding runs_of
runs_are_items detail [] = refl
runs_are_items detail (item ∷ later) =
    by (joins_first detail item later) (runs_of detail later) ∙ ap (λ (items : List Item). item ∷ items) (runs_are_items detail later) where
      by : (joined : Bool) (runs : List (List Item))
          → flat_map (λ (run : List Item). run) (before_runs joined item runs) ≡ item ∷ flat_map (λ (run : List Item). run) runs
      by true [] = refl
      by true (run ∷ runs) = refl
      by false runs = refl

-- the last of one or more tests is at the end
last_is : (first : Tested) (later : List Tested) (default : Tested) → get_or (first ∷ later) (length (first ∷ later) - 1) default ≡ last_of first later
unfolding last_of
last_is first [] default = refl
last_is first (next ∷ later) default =
    let one : length (first ∷ next ∷ later) - 1 ≡ suc (length (next ∷ later) - 1) = omega arith in
    ap (λ (k : ℕ). get_or (first ∷ next ∷ later) k default) one ∙ last_is next later default

pub one_text : (tests : List Tested) (default : Tested) → 1 ≤ length tests → length tests < 2 → test_line (get_or tests 0 default) ≡ tests_text tests
unfolding tests_line
one_text [] default some few = absurd (omega (arith, some))
one_text (only ∷ []) default some few = refl
one_text (first ∷ next ∷ later) default some few = absurd (omega (arith, few))

pub many_text : (tests : List Tested) (default : Tested) → 2 ≤ length tests
    → row_line (get_or tests 0 default) (get_or tests (length tests - 1) default) tests ≡ tests_text tests
unfolding tests_line last_of
many_text [] default many = absurd (omega (arith, many))
many_text (only ∷ []) default many = absurd (omega (arith, many))
many_text (first ∷ next ∷ later) default many = ap (λ (last : Tested). row_line first last (first ∷ next ∷ later)) (last_is first (next ∷ later) default)

pub last_leads : (detail : Detail) (tests : List Tested) (tested default : Tested) → 1 ≤ length tests → true ≡ is_short detail
    → goes_on (get_or tests (length tests - 1) default) tested ≡ shares_line detail tests tested
last_leads detail [] tested default some short = absurd (omega (arith, some))
last_leads detail (first ∷ later) tested default some short =
    ap (λ (last : Tested). goes_on last tested) (last_is first later default) ∙ ap (λ (b : Bool). b && goes_on (last_of first later) tested) short

-- what a push leaves goes on with one another, whether there was memory or not
pub kept_joined : (detail : Detail) (tests after : List Tested) (tested : Tested) (pushed : Bool) → are_joined detail tests ≡ true
    → shares_line detail tests tested ≡ true
    → after ≡ (if pushed then tests ++ tested ∷ [] else tests) → are_joined detail after ≡ true
kept_joined detail tests after tested true joined leads is = ap (are_joined detail) is ∙ one_joined detail tests tested joined leads
kept_joined detail tests after tested false joined leads is = ap (are_joined detail) is ∙ joined

-- if no tests share a line, each item is a run
each_parted : (detail : Detail) → is_short detail ≡ false → (item : Item) (later : List Item) → joins_first detail item later ≡ false
each_parted detail long item [] = refl
each_parted detail long (Tests tested) (Tests next ∷ later) = ap (λ (b : Bool). b && goes_on tested next) long
each_parted detail long (Tests tested) (Says lines ∷ later) = refl
each_parted detail long (Says lines) (next ∷ later) = refl

run_of_one : (item : Item) → run_lines (item ∷ []) ≡ item_lines item
unfolding run_lines item_lines tests_line
run_of_one (Tests tested) = refl
run_of_one (Says lines) = refl

pub each_alone : (detail : Detail) (items : List Item) → is_short detail ≡ false → walk_text_of detail items ≡ flat_map item_lines items
unfolding walk_text_of runs_of
each_alone detail [] long = refl
each_alone detail (item ∷ later) long =
    ap (λ (joined : Bool). flat_map run_lines (before_runs joined item (runs_of detail later))) (each_parted detail long item later)
    ∙ ap (λ (lines : List ℕ). lines ++ walk_text_of detail later) (run_of_one item)
    ∙ ap (λ (lines : List ℕ). item_lines item ++ lines) (each_alone detail later long)

-- a test before a run that goes on with it is a run with it
joined_run : (detail : Detail) (before tested : Tested) (rest : List Item) → (is_short detail && goes_on before tested) ≡ true
    → IsRun detail (Tests tested ∷ rest) → IsRun detail (Tests before ∷ Tests tested ∷ rest)
joined_run detail before tested rest goes (inl one) =
    let none : rest ≡ [] = cc (one.1) in
    inr (
      before,
      tested,
      [],
      ap (λ (items : List Item). Tests before ∷ Tests tested ∷ items) none,
      and_both (is_short detail && goes_on before tested) true goes refl,
    )
joined_run detail before tested rest goes (inr row) =
    let later = row.1 ∷ row.2 in
    let same : tested ≡ row.0 = cc (row.3) in
    inr (
      before,
      row.0,
      later,
      ap (λ (items : List Item). Tests before ∷ items) row.3,
      and_both (is_short detail && goes_on before row.0) (are_joined detail (row.0 ∷ later))
          (ap (λ (test : Tested). is_short detail && goes_on before test) (sym same) ∙ goes) row.4,
    )

row_begins : (detail : Detail) (before tested : Tested) (later : List Item) (joined : Bool) → (is_short detail && goes_on before tested) ≡ joined
    → AllByRecursion (IsRun detail) (runs_of detail (Tests tested ∷ later))
    → AllByRecursion (IsRun detail) (before_runs joined (Tests before) (runs_of detail (Tests tested ∷ later)))
row_begins detail before tested later false parted all = (inl (Tests before, refl), all)
row_begins detail before tested later true goes all =
    let first = begun_by detail (Tests tested) later in
    let these = subst (AllByRecursion (IsRun detail)) first.2 all in
    subst (λ (runs : List (List Item)). AllByRecursion (IsRun detail) (in_first (Tests before) runs)) (sym first.2)
    (joined_run detail before tested first.0 goes these.0, these.1)

each_run : (detail : Detail) (items : List Item) → AllByRecursion (IsRun detail) (runs_of detail items)
unfolding runs_of
each_run detail [] = tt
each_run detail (Says lines ∷ []) = (inl (Says lines, refl), tt)
each_run detail (Tests tested ∷ []) = (inl (Tests tested, refl), tt)
each_run detail (Says lines ∷ next ∷ later) = (inl (Says lines, refl), each_run detail (next ∷ later))
each_run detail (Tests before ∷ Says lines ∷ later) = (inl (Tests before, refl), each_run detail (Says lines ∷ later))
each_run detail (Tests before ∷ Tests tested ∷ later) =
    row_begins detail before tested later (is_short detail && goes_on before tested) refl (each_run detail (Tests tested ∷ later))

-- each run is one
pub all_runs : (detail : Detail) (items : List Item) → All (IsRun detail) (runs_of detail items)
all_runs detail items = All-from_recursion (IsRun detail) (runs_of detail items) (each_run detail items)
