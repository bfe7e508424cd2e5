-- What clap makes of the words of options, one option after the other.
use Rattle.std.proofs.Common.{◌≡◌, ◌∙◌, ◌&&◌, ap, refl, sym, subst, cond, Bool, true, false, true≢false, List, [], ◌∷◌, ◌++◌, Option, Some, None, inl, inr}
use Rattle.std.proofs.Common.{append_assoc, append-nil, codes, map, nat_lt, ◌||◌, IfSome, flat_map, fold, is_some, not, option_map, IsSomeAnd, bytes_eq}
use Rattle.{std.{specs.Option.option_map_or, proofs.lemmas.{Bool.{and_from, false_from_ne_true}, Slice.Eq.bytes_eq-Decides}}, clap.specs.Lexer.long_of}
use Rattle.clap.specs.Walk.{Held, Row, Rule, Step, Text, Walk, after_flag, after_step, arg_by_id, arg_by_long, has_row, idle, long_met, long_or_other, next}
use Rattle.clap.specs.Walk.{option, option_word, pushed, reading_by, settled, settled_rows, trailing, used, used_by_id, walk_from, walked, word_met}
use Rattle.clap.specs.Takes.{flag_word_passes, long_passes, settle_passes, step_passes, turn_passes, use_passes, walk_passes}
use Rattle.clap.specs.{Faults.{positional_fault, settle_fault, turn_fault, use_fault, walk_fault}, declared.builder.value_parser.Reading.TheVariants.AsWritten}
use Rattle.clap.specs.declared.{builder.value_parser.ValueParser.ValueParser, parser.matches.ValueSource.TheVariants.CommandLine}
use Rattle.{clap.proofs.OnLiterals.clap_on_literals, crossbar5_command.specs.Subcommand.{AreOptions, AreValues, Argument, Fits, GivenOption, IsValueFor}}
use Rattle.crossbar5_command.specs.Subcommand.{NamedOption, Subcommand, given_named, hyphen, nothing, option_named, value, words_of}
use Rattle.crossbar5_command.proofs.{OptionRows.{has_row-more, row_for, row_of_value, row_replaced}, OptionRules.{IsLong, are_sound, built_rule, is_long}}
use Rattle.crossbar5_command.proofs.OptionRules.{level, name_found, no_help, no_positional, rule_by_id, rule_by_long, rules_for, same_text}
use Rattle.crossbar5_command.proofs.ValueWords.{IsRead, IsRefused, before_value, dashes, or_else-first, or_else-second, some_refused, value_or_end, value_read}
use Rattle.crossbar5_command.proofs.ValueWords.{waiting_for}
use Rattle.clap.specs.declared.error.kind.ErrorKind.TheVariants as kind

-- there is no row yet for the options that are to be given
abbrev pub AreNew : List Row → List GivenOption → Type 0
AreNew rows [] = Unit {0}
AreNew rows (g ∷ rest) = (has_row g.name rows ≡ false) × AreNew rows rest

pub all_new : (given : List GivenOption) → AreNew [] given
all_new [] = tt
all_new (g ∷ rest) = (refl, all_new rest)

pub other_way : (a b : Text) → bytes_eq a b ≡ false → bytes_eq b a ≡ false
other_way a b differs = false_from_ne_true (bytes_eq b a)
    (λ same. true≢false (sym ((bytes_eq-Decides a b).1 (sym ((bytes_eq-Decides b a).0 same))) ∙ differs))

-- one row more, of a name that isn't among them
still_new : (rows : List Row) (row : Row) (given : List GivenOption) → AreNew rows given → given_named given row.id ≡ None → AreNew (rows ++ row ∷ []) given
still_new rows row [] new apart = tt
still_new rows row (g ∷ rest) new apart = go (bytes_eq g.name row.id) refl apart (still_new rows row rest new.1)
  where
    go : (same : Bool) → bytes_eq g.name row.id ≡ same → cond same (Some g) (given_named rest row.id) ≡ None
        → (given_named rest row.id ≡ None → AreNew (rows ++ row ∷ []) rest) → AreNew (rows ++ row ∷ []) (g ∷ rest)
    go true is apart later = absurd (true≢false (ap is_some apart))
    go false is apart later = (has_row-more g.name rows row new.0 (other_way g.name row.id is), later apart)

module _ (s : Subcommand) where
  abbrev rules : List Rule
  rules = rules_for s.options

  -- between two options
  abbrev held_with : List Row → Option (Text × List Text) → Held
  held_with rows pending = record { rows = rows; pending = pending; skip = 0 }

  abbrev between : List Row → Option (Text × List Text) → Walk
  between rows pending = walk_from (held_with rows pending)

  -- an option of the subcommand, by its name
  record IsOption (name : Text) (argument : Argument) : Type 0 where
    long : IsLong name
    by_long : arg_by_long rules name ≡ Some (built_rule (record { name = name; argument = argument }))
    by_id : arg_by_id rules name ≡ Some (built_rule (record { name = name; argument = argument }))
    reading : option_map_or (λ o. reading_by (built_rule o)) (option_named s.options name) AsWritten
        ≡ reading_by (built_rule (record { name = name; argument = argument }))

  is_option : (name : Text) (o : NamedOption) → are_sound s.options ≡ true → option_named s.options name ≡ Some o → IsOption name o.argument
  is_option name o are found =
      let named = name_found name s.options o are found in
      let here : option_named s.options name ≡ Some (record { name = name; argument = o.argument }) =
      found ∙ ap (λ n. Some (record { name = n; argument = o.argument })) named.0 in
      record {
        long = is_long name named.1;
        by_long = rule_by_long name s.options (no_help name named.1) ∙ ap (option_map built_rule) here;
        by_id = rule_by_id name s.options (no_help name named.1) ∙ ap (option_map built_rule) here;
        reading = ap (λ found. option_map_or (λ o. reading_by (built_rule o)) found AsWritten) here;
      }

  -- ---- the word of an option
  module _ (name : Text) (argument : Argument) (is : IsOption name argument) (rows : List Row) (pending : Option (Text × List Text)) where
    abbrev rule : Rule
    rule = built_rule (record { name = name; argument = argument })

    abbrev word : Text
    word = hyphen ∷ hyphen ∷ name

    abbrev held : Held
    held = held_with rows pending

    abbrev met : Held × Step
    met = after_flag rules idle word (long_met rules (Some rule) None held).0 (long_met rules (Some rule) None held).1

    met_is : word_met rules [] false idle 1 word held ≡ met
    met_is =
        ap (λ end. cond end (held, trailing 1) (long_or_other rules idle word (long_of word) held)) is.long.goes_on
        ∙ ap (λ long. long_or_other rules idle word long held) is.long.reads
        ∙ ap (λ found. after_flag rules idle word (long_met rules found None held).0 (long_met rules found None held).1) is.by_long

    word_walked : walked rules [] (between rows pending) word ≡ after_step rules word (between rows pending) met.0 met.1
    unfolding clap_on_literals
    word_walked = ap (λ m. after_step rules word (between rows pending) m.0 m.1) met_is

    word_passes : long_passes rules false (Some rule) None held ≡ true → step_passes (level s) 1 met.0 met.1 ≡ true
        → turn_passes (level s) [] (between rows pending) word ≡ true
    word_passes passes step =
        and_from _ _
        (ap (λ end. end || flag_word_passes rules false (long_of word) word held) is.long.goes_on
        ∙ ap (λ long. flag_word_passes rules false long word held) is.long.reads
        ∙ ap (λ found. long_passes rules false found None held) is.by_long ∙ passes)
        (ap (λ m. step_passes (level s) 1 m.0 m.1) met_is ∙ step)

  -- ---- one option

  abbrev pub after : Walk → List Text → Walk
  after w words = fold (walked rules []) w words

  -- the rows at the end of a walk, but for defaults
  abbrev pub rows_at_end : Walk → List Row
  rows_at_end w = (settled rules w.held).rows

  -- after the option the walk is between two options again, with one row more
  record Steps (g : GivenOption) (rows : List Row) (pending : Option (Text × List Text)) : Type 0 where
    rows_then : List Row
    pending_then : Option (Text × List Text)
    walks : after (between rows pending) (words_of g) ≡ between rows_then pending_then
    settles : settled_rows rules pending_then rows_then ≡ settled_rows rules pending rows ++ row_for s.options g ∷ []

  record IsTaken (g : GivenOption) (rows : List Row) (pending : Option (Text × List Text)) : Type 0 where
    steps : Steps g rows pending
    settled : settle_passes rules false (held_with steps.rows_then steps.pending_then) ≡ true
    passes : (more : List Text) → walk_passes (level s) [] (between steps.rows_then steps.pending_then) more ≡ true
        → walk_passes (level s) [] (between rows pending) (words_of g ++ more) ≡ true

  -- `--` is no value
  end_refused : (name : Text) (rows : List Row) (more : List Text) → IsRefused (settle_fault rules false (waiting_for name rows))
      → walk_fault (level s) [] (walked rules [] (before_value name rows) dashes) more ≡ []
      → settle_fault rules false (after (walked rules [] (before_value name rows) dashes) more).held ≡ [] → ⊥
  unfolding clap_on_literals
  end_refused name rows [] missing none end = missing end
  end_refused name rows (word ∷ more) missing none end =
      some_refused kind.UnknownArgument []
      (sym (ap (λ found. option_map_or (λ a. positional_fault rules false a (waiting_for name rows)) found (kind.UnknownArgument ∷ []))
      (no_positional s.options 1))
      ∙ or_else-first _ (walk_fault (level s) [] (walked rules [] (walked rules [] (before_value name rows) dashes) word) more) none)

  record IsReadOn (g : GivenOption) (rows : List Row) (pending : Option (Text × List Text)) (more : List Text) : Type 0 where
    steps : Steps g rows pending
    later : walk_fault (level s) [] (between steps.rows_then steps.pending_then) more ≡ []

  -- ---- an option with a value
  module _ (name v : Text) (test : Option ValueParser) (default : Option Text) (is : IsOption name (value test default))
      (rows : List Row) (pending : Option (Text × List Text)) (new : has_row name (settled_rows rules pending rows) ≡ false) where
    abbrev argument : Argument
    argument = value test default

    abbrev so_far : List Row
    so_far = settled_rows rules pending rows

    abbrev before : Walk
    before = before_value name so_far

    opened : walked rules [] (between rows pending) (hyphen ∷ hyphen ∷ name) ≡ before
    opened = word_walked name argument is rows pending

    value_walked : IsRead s name so_far v → walked rules [] before v ≡ between so_far (Some (name, v ∷ []))
    unfolding clap_on_literals
    value_walked read =
        let held = waiting_for name so_far in
        ap (λ met. after_step rules v before met.0 met.1) read
        ∙ ap (λ found. after_step rules v before (option_word found name v held).0 (next (option_word found name v held).1)) is.by_id
        ∙ ap (λ same. record before { held = pushed name v held; waiting = cond (nat_lt (cond same 1 0) 1) (option name) idle }) (same_text name)

    value_steps : IsRead s name so_far v → Steps (record { name = name; value = Some v }) rows pending
    value_steps read = record {
      rows_then = so_far;
      pending_then = Some (name, v ∷ []);
      walks = ap (λ w. walked rules [] w v) opened ∙ value_walked read;
      settles = ap (λ found. used_by_id found (v ∷ []) so_far) is.by_id
          ∙ row_replaced name (reading_by (built_rule (record { name = name; argument = argument }))) CommandLine v so_far new
          ∙ ap (λ how. so_far ++ row_of_value name how CommandLine v ∷ []) (sym is.reading);
    }

    value_taken : IsValueFor argument v → settle_passes rules false (held_with rows pending) ≡ true
        → IsTaken (record { name = name; value = Some v }) rows pending
    unfolding walk_passes value_steps
    value_taken can settle =
        let read = value_read s name so_far v can.0 in
        record {
          steps = value_steps read.0;
          settled = ap (λ found. option_map_or (λ a. use_passes false a (v ∷ []) so_far) found true) is.by_id
              ∙ and_from _ _ (ap (λ has. not has || false) new) (and_from _ _ can.1 refl);
          passes = λ more later. and_from _ _ (word_passes name argument is rows pending settle refl)
              (subst (λ w. walk_passes (level s) [] w (v ∷ more) ≡ true) (sym opened)
              (and_from _ _ read.1 (subst (λ w. walk_passes (level s) [] w more ≡ true) (sym (value_walked read.0)) later)));
        }

    missing : IsRefused (settle_fault rules false (waiting_for name so_far))
    missing none =
        some_refused kind.InvalidValue [] (sym (ap (λ found. option_map_or (λ a. use_fault false a [] so_far) found []) is.by_id) ∙ none)

    value_read_on : (more : List Text) → walk_fault (level s) [] (between rows pending) ((hyphen ∷ hyphen ∷ name) ∷ v ∷ more) ≡ []
        → settle_fault rules false (after (between rows pending) ((hyphen ∷ hyphen ∷ name) ∷ v ∷ more)).held ≡ []
        → IsReadOn (record { name = name; value = Some v }) rows pending more
    unfolding walk_fault value_steps
    value_read_on more none end =
        let none_then = subst (λ w. walk_fault (level s) [] w (v ∷ more) ≡ []) opened
        (or_else-second (turn_fault (level s) [] (between rows pending) (hyphen ∷ hyphen ∷ name)) _ none) in
        let end_then = subst (λ w. settle_fault rules false (after w (v ∷ more)).held ≡ []) opened end in
        let none_later = or_else-second (turn_fault (level s) [] before v) (walk_fault (level s) [] (walked rules [] before v) more) none_then in
        elim (value_or_end s name so_far missing v (or_else-first (turn_fault (level s) [] before v) _ none_then)) [
          | inl read ↦ record {
            steps = value_steps read;
            later = subst (λ w. walk_fault (level s) [] w more ≡ []) (value_walked read) none_later;
          }
          | inr ends ↦ absurd (end_refused name so_far more missing
              (subst (λ t. walk_fault (level s) [] (walked rules [] before t) more ≡ []) ends none_later)
              (subst (λ t. settle_fault rules false (after (walked rules [] before t) more).held ≡ []) ends end_then))
        ]

  -- ---- an option without a value
  module _ (name : Text) (is : IsOption name nothing) (rows : List Row) (pending : Option (Text × List Text))
      (new : has_row name (settled_rows rules pending rows) ≡ false) where
    flag_steps : Steps (record { name = name; value = None }) rows pending
    flag_steps =
        let rule = built_rule (record { name = name; argument = nothing }) in
        let so_far = settled_rows rules pending rows in
        record {
          rows_then = used rule [] so_far;
          pending_then = None;
          walks = word_walked name nothing is rows pending;
          settles = row_replaced name (reading_by rule) CommandLine (codes "true") so_far new
              ∙ ap (λ how. so_far ++ row_of_value name how CommandLine (codes "true") ∷ []) (sym is.reading);
        }

    flag_taken : settle_passes rules false (held_with rows pending) ≡ true → IsTaken (record { name = name; value = None }) rows pending
    unfolding walk_passes flag_steps
    flag_taken settle = record {
      steps = flag_steps;
      settled = refl;
      passes = λ more later. and_from _ _
          (word_passes name nothing is rows pending (and_from _ _ settle (ap (λ has. (not has || false) && true) new)) refl)
          (subst (λ w. walk_passes (level s) [] w more ≡ true) (sym (word_walked name nothing is rows pending)) later);
    }

    flag_read_on : (more : List Text) → walk_fault (level s) [] (between rows pending) ((hyphen ∷ hyphen ∷ name) ∷ more) ≡ []
        → IsReadOn (record { name = name; value = None }) rows pending more
    unfolding walk_fault flag_steps
    flag_read_on more none = record {
      steps = flag_steps;
      later = subst (λ w. walk_fault (level s) [] w more ≡ []) (word_walked name nothing is rows pending)
          (or_else-second (turn_fault (level s) [] (between rows pending) (hyphen ∷ hyphen ∷ name)) _ none);
    }

  -- ---- options with values of their own are taken

  one_taken : (g : GivenOption) (found : Option NamedOption) → option_named s.options g.name ≡ found → are_sound s.options ≡ true
      → IsSomeAnd found (λ o. Fits g.value o.argument) → IfSome found (λ o. IfSome g.value (IsValueFor o.argument))
      → (rows : List Row) (pending : Option (Text × List Text)) → has_row g.name (settled_rows rules pending rows) ≡ false
      → settle_passes rules false (held_with rows pending) ≡ true → IsTaken g rows pending
  one_taken g None found are fits can rows pending new settle = absurd fits
  one_taken g (Some o) found are fits can rows pending new settle = go g.value o.argument fits can (is_option g.name o are found)
    where
      go : (v : Option Text) (argument : Argument) → Fits v argument → IfSome v (IsValueFor argument) → IsOption g.name argument
          → IsTaken (record { name = g.name; value = v }) rows pending
      go None nothing fits can is = flag_taken g.name is rows pending new settle
      go (Some v) (value test default) fits can is = value_taken g.name v test default is rows pending new can settle
      go None (value test default) fits can is = absurd fits
      go (Some v) nothing fits can is = absurd fits

  after_more : (w : Walk) (first more : List Text) → after w (first ++ more) ≡ after (after w first) more
  after_more w [] more = refl
  after_more w (word ∷ first) more = after_more (walked rules [] w word) first more

  pub options_taken : (given : List GivenOption) (rows : List Row) (pending : Option (Text × List Text)) → are_sound s.options ≡ true
      → AreOptions s.options given → AreValues s.options given → AreNew (settled_rows rules pending rows) given
      → settle_passes rules false (held_with rows pending) ≡ true
      → (walk_passes (level s) [] (between rows pending) (flat_map words_of given) ≡ true)
      × (settle_passes rules false (after (between rows pending) (flat_map words_of given)).held ≡ true)
  unfolding walk_passes
  options_taken [] rows pending are options values new settle = (refl, settle)
  options_taken (g ∷ rest) rows pending are options values new settle =
      let more = flat_map words_of rest in
      let one = one_taken g (option_named s.options g.name) refl are options.0 values.0 rows pending new.0 settle in
      let new_then =
      subst (λ rs. AreNew rs rest) (sym one.steps.settles) (still_new (settled_rows rules pending rows) (row_for s.options g) rest new.1 options.1) in
      let later = options_taken rest one.steps.rows_then one.steps.pending_then are options.2 values.1 new_then one.settled in (
        one.passes more later.0,
        ap (λ (w : Walk). settle_passes rules false w.held) (after_more (between rows pending) (words_of g) more ∙ ap (λ w. after w more) one.steps.walks)
            ∙ later.1,
      )

  -- ---- options that aren't refused are read

  one_read : (g : GivenOption) (found : Option NamedOption) → option_named s.options g.name ≡ found → are_sound s.options ≡ true
      → IsSomeAnd found (λ o. Fits g.value o.argument) → (rows : List Row) (pending : Option (Text × List Text)) (more : List Text)
      → has_row g.name (settled_rows rules pending rows) ≡ false
      → walk_fault (level s) [] (between rows pending) (words_of g ++ more) ≡ []
      → settle_fault rules false (after (between rows pending) (words_of g ++ more)).held ≡ [] → IsReadOn g rows pending more
  one_read g None found are fits rows pending more new none end = absurd fits
  one_read g (Some o) found are fits rows pending more new none end = go g.value o.argument fits (is_option g.name o are found) none end
    where
      go : (v : Option Text) (argument : Argument) → Fits v argument → IsOption g.name argument
          → walk_fault (level s) [] (between rows pending) (words_of (record { name = g.name; value = v }) ++ more) ≡ []
          → settle_fault rules false (after (between rows pending) (words_of (record { name = g.name; value = v }) ++ more)).held ≡ []
          → IsReadOn (record { name = g.name; value = v }) rows pending more
      go None nothing fits is none end = flag_read_on g.name is rows pending new more none
      go (Some v) (value test default) fits is none end = value_read_on g.name v test default is rows pending new more none end
      go None (value test default) fits is none end = absurd fits
      go (Some v) nothing fits is none end = absurd fits

  pub options_read : (given : List GivenOption) (rows : List Row) (pending : Option (Text × List Text)) → are_sound s.options ≡ true
      → AreOptions s.options given → AreNew (settled_rows rules pending rows) given
      → walk_fault (level s) [] (between rows pending) (flat_map words_of given) ≡ []
      → settle_fault rules false (after (between rows pending) (flat_map words_of given)).held ≡ []
      → rows_at_end (after (between rows pending) (flat_map words_of given)) ≡ settled_rows rules pending rows ++ map (row_for s.options) given
  options_read [] rows pending are options new none end = sym (append-nil (settled_rows rules pending rows))
  options_read (g ∷ rest) rows pending are options new none end =
      let more = flat_map words_of rest in
      let so_far = settled_rows rules pending rows in
      let row = row_for s.options g in
      let one = one_read g (option_named s.options g.name) refl are options.0 rows pending more new.0 none end in
      let new_then = subst (λ rs. AreNew rs rest) (sym one.steps.settles) (still_new so_far row rest new.1 options.1) in
      let walk_then = after_more (between rows pending) (words_of g) more ∙ ap (λ w. after w more) one.steps.walks in
      let end_then = subst (λ (w : Walk). settle_fault rules false w.held ≡ []) walk_then end in
      ap rows_at_end walk_then
      ∙ options_read rest one.steps.rows_then one.steps.pending_then are options.2 new_then one.later end_then
      ∙ ap (λ rs. rs ++ map (row_for s.options) rest) one.steps.settles
      ∙ append_assoc so_far (row ∷ []) (map (row_for s.options) rest)
