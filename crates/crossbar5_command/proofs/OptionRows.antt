-- The rows of options that are given, with the defaults of those that aren't.
use Rattle.std.proofs.Common.{◌≡◌, ◌∙◌, ap, refl, sym, cond, Bool, true, false, true≢false, List, [], ◌∷◌, ◌++◌, Option, Some, None, map, append-nil, codes}
use Rattle.std.proofs.Common.{◌||◌, is_some, not, find, fold, option_and_then, option_map, slice_get, bytes_eq}
use Rattle.std.{specs.Option.{option_map_or, option_or}, proofs.lemmas.{Bool.{and_parts, not-true, or_parts}, List.Folds.find-append}}
use Rattle.{std.proofs.lemmas.Slice.Eq.bytes_eq-Decides, clap.specs.Walk.{Row, Text, at_row, default_rows, first_of, has_row, more_values, reading_by}}
use Rattle.clap.specs.{Walk.{with_default, with_values, without}, declared.builder.value_parser.Reading.{Reading, TheVariants.AsWritten}}
use Rattle.clap.{specs.declared.parser.matches.ValueSource.{ValueSource, TheVariants.{CommandLine, DefaultValue}}, proofs.WalkLemmas.find-map}
use Rattle.crossbar5_command.specs.Subcommand.{Argument, GivenOption, NamedOption, default_of, given_named, given_value, nothing, option_named, value, value_of}
use Rattle.crossbar5_command.proofs.OptionRules.{are_apart, built_rule, rules_for}

abbrev pub row_of_value : Text → Reading → ValueSource → Text → Row
row_of_value name how source v = record { id = name; values = v ∷ []; count = None; source = Some source; reading = how }

-- the row of an option that is given
abbrev pub row_for : List NamedOption → GivenOption → Row
row_for options g =
    row_of_value g.name (option_map_or (λ o. reading_by (built_rule o)) (option_named options g.name) AsWritten) CommandLine (given_value g)

-- ---- one more row

at_no_row : (id : Text) (change : Row → List Row) (missing rows : List Row) → has_row id rows ≡ false
    → at_row id change missing rows ≡ rows ++ missing
at_no_row id change missing [] none = refl
at_no_row id change missing (r ∷ rows) none =
    ap (λ here. cond here (change r ++ rows) (r ∷ at_row id change missing rows)) (or_parts _ _ none).0
    ∙ ap (λ rest. r ∷ rest) (at_no_row id change missing rows (or_parts _ _ none).1)

pub row_added : (name : Text) (how : Reading) (source : ValueSource) (v : Text) (rows : List Row) → has_row name rows ≡ false
    → with_values name how source (v ∷ []) rows ≡ rows ++ row_of_value name how source v ∷ []
row_added name how source v rows none = at_no_row name (more_values source (v ∷ [])) (row_of_value name how source v ∷ []) rows none

pub row_replaced : (name : Text) (how : Reading) (source : ValueSource) (v : Text) (rows : List Row) → has_row name rows ≡ false
    → with_values name how source (v ∷ []) (without name rows) ≡ rows ++ row_of_value name how source v ∷ []
row_replaced name how source v rows none =
    ap (with_values name how source (v ∷ [])) (at_no_row name (λ _. []) [] rows none ∙ append-nil rows)
    ∙ row_added name how source v rows none

-- whether there is a row is whether one is found
any_found : (id : Text) (rows : List Row) → has_row id rows ≡ is_some (find (λ r. bytes_eq r.id id) rows)
any_found id [] = refl
any_found id (r ∷ rows) = go (bytes_eq r.id id) (any_found id rows)
  where
    go : (here : Bool) → has_row id rows ≡ is_some (find (λ r. bytes_eq r.id id) rows)
        → (here || has_row id rows) ≡ is_some (cond here (Some r) (find (λ r. bytes_eq r.id id) rows))
    go true is = refl
    go false is = is

pub has_row-more : (id : Text) (rows : List Row) (row : Row) → has_row id rows ≡ false → bytes_eq row.id id ≡ false
    → has_row id (rows ++ row ∷ []) ≡ false
has_row-more id [] row none other = ap (λ b. b || false) other
has_row-more id (r ∷ rows) row none other =
    ap (λ b. b || has_row id (rows ++ row ∷ [])) (or_parts _ _ none).0 ∙ has_row-more id rows row (or_parts _ _ none).1 other

-- ---- the rows of what is given

pub given_found : (options : List NamedOption) (id : Text) (given : List GivenOption)
    → find (λ r. bytes_eq r.id id) (map (row_for options) given) ≡ option_map (row_for options) (given_named given id)
given_found options id given = sym (find-map (λ r. bytes_eq r.id id) (row_for options) given)

-- ---- with defaults

-- the first value of a row that is found, otherwise this one
abbrev value_or : Option Row → Option Text → Option Text
value_or None other = other
value_or (Some r) other = slice_get r.values 0

abbrev row_named : Text → List Row → Option Row
row_named id rows = find (λ r. bytes_eq r.id id) rows

abbrev listed : Option Text → List Text
listed None = []
listed (Some v) = v ∷ []

defaults_listed : (name : Text) (argument : Argument) → (built_rule (record { name = name; argument = argument })).defaults ≡ listed (default_of argument)
defaults_listed name nothing = refl
defaults_listed name (value test None) = refl
defaults_listed name (value test (Some v)) = refl

-- the rows after the default of one option
abbrev rows_with : Text → Reading → Option Text → List Row → List Row
rows_with name how default rows = cond (has_row name rows) rows (default_rows name how (listed default) rows)

one_default : (name : Text) (how : Reading) (default : Option Text) (rows : List Row) (id : Text) (other : Option Text)
    → (bytes_eq name id ≡ true → other ≡ None)
    → value_or (row_named id (rows_with name how default rows)) other ≡ value_or (row_named id rows) (cond (bytes_eq name id) default other)
one_default name how default rows id other apart = go (has_row name rows) refl (bytes_eq name id) refl default apart
  where
    there : has_row name rows ≡ true → bytes_eq name id ≡ true → is_some (row_named id rows) ≡ true
    there has same = sym (any_found id rows) ∙ ap (λ t. has_row t rows) (sym ((bytes_eq-Decides name id).0 same)) ∙ has

    not_there : has_row name rows ≡ false → bytes_eq name id ≡ true → is_some (row_named id rows) ≡ false
    not_there none same = sym (any_found id rows) ∙ ap (λ t. has_row t rows) (sym ((bytes_eq-Decides name id).0 same)) ∙ none

    either : (found : Option Row) (a b : Option Text) → is_some found ≡ true → value_or found a ≡ value_or found b
    either None a b is = absurd (true≢false (sym is))
    either (Some r) a b is = refl

    behind : (found : Option Row) (same : Bool) (v : Text) → (same ≡ true → is_some found ≡ false)
        → value_or (option_or found (cond same (Some (row_of_value name how DefaultValue v)) None)) other ≡ value_or found (cond same (Some v) other)
    behind None true v none = refl
    behind None false v none = refl
    behind (Some r) true v none = absurd (true≢false (none refl))
    behind (Some r) false v none = refl

    go : (has : Bool) → has_row name rows ≡ has → (same : Bool) → bytes_eq name id ≡ same → (default : Option Text) → (same ≡ true → other ≡ None)
        → value_or (row_named id (cond has rows (default_rows name how (listed default) rows))) other ≡ value_or (row_named id rows) (cond same default other)
    go true has true same default apart = either (row_named id rows) other default (there has same)
    go true has false same default apart = refl
    go false has true same None apart = ap (value_or (row_named id rows)) (apart refl)
    go false has false same None apart = refl
    go false has same is (Some v) apart =
        ap (λ rs. value_or (row_named id rs) other) (row_added name how DefaultValue v rows has)
        ∙ ap (λ found. value_or found other) (find-append (λ r. bytes_eq r.id id) rows (row_of_value name how DefaultValue v ∷ []))
        ∙ ap (λ s. value_or (option_or (row_named id rows) (cond s (Some (row_of_value name how DefaultValue v)) None)) other) is
        ∙ behind (row_named id rows) same v (λ yes. not_there has (is ∙ yes))

abbrev default_in : List NamedOption → Text → Option Text
default_in options id = option_and_then (λ o. default_of o.argument) (option_named options id)

default_found : (o : NamedOption) (rest : List NamedOption) (id : Text)
    → default_in (o ∷ rest) id ≡ cond (bytes_eq o.name id) (default_of o.argument) (default_in rest id)
default_found o rest id = go (bytes_eq o.name id)
  where
    go : (same : Bool) → option_and_then (λ o. default_of o.argument) (cond same (Some o) (option_named rest id))
        ≡ cond same (default_of o.argument) (default_in rest id)
    go true = refl
    go false = refl

all_defaults : (options : List NamedOption) (rows : List Row) (id : Text) → are_apart options ≡ true
    → value_or (row_named id (fold with_default rows (rules_for options))) None ≡ value_or (row_named id rows) (default_in options id)
all_defaults [] rows id are = ap (λ rs. value_or (row_named id rs) None) (go (has_row (codes "help") rows))
  where
    go : (has : Bool) → cond has rows rows ≡ rows
    go true = refl
    go false = refl
all_defaults (o ∷ rest) rows id are =
    let how = reading_by (built_rule o) in
    ap (λ ds. value_or (row_named id (fold with_default (cond (has_row o.name rows) rows (default_rows o.name how ds rows)) (rules_for rest))) None)
    (defaults_listed o.name o.argument)
    ∙ all_defaults rest (rows_with o.name how (default_of o.argument) rows) id (and_parts (not (is_some (option_named rest o.name))) _ are).1
    ∙ one_default o.name how (default_of o.argument) rows id (default_in rest id)
    (λ same. ap (default_in rest) (sym ((bytes_eq-Decides o.name id).0 same))
    ∙ none_of (option_named rest o.name) (not-true _ (and_parts (not (is_some (option_named rest o.name))) _ are).0))
    ∙ ap (value_or (row_named id rows)) (sym (default_found o rest id))
  where
    none_of : (found : Option NamedOption) → is_some found ≡ false → option_and_then (λ o. default_of o.argument) found ≡ None
    none_of None none = refl
    none_of (Some o) none = absurd (true≢false none)

-- the value of each option, if the rows before the defaults are exactly those of the given options
pub values_of_rows : (options : List NamedOption) (given : List GivenOption) (id : Text) → are_apart options ≡ true
    → first_of id (fold with_default (map (row_for options) given) (rules_for options)) ≡ value_of options given id
values_of_rows options given id are =
    sym (as_value (row_named id (fold with_default (map (row_for options) given) (rules_for options))))
    ∙ all_defaults options (map (row_for options) given) id are
    ∙ ap (λ found. value_or found (default_in options id)) (given_found options id given)
    ∙ given_or (given_named given id)
  where
    as_value : (found : Option Row) → value_or found None ≡ option_and_then (λ (r : Row). slice_get r.values 0) found
    as_value None = refl
    as_value (Some r) = refl

    given_or : (found : Option GivenOption) → value_or (option_map (row_for options) found) (default_in options id)
        ≡ option_or (option_map given_value found) (default_in options id)
    given_or None = refl
    given_or (Some g) = refl
