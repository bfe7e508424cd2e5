-- What clap makes of the words of a subcommand with its options.
use Rattle.std.proofs.Common.{◌≡◌, ◌∙◌, ◌&&◌, ap, refl, sym, subst, cond, Bool, true, false, List, [], ◌∷◌, ◌++◌, Option, Some, None, codes, ◌||◌, find}
use Rattle.std.proofs.Common.{flat_map, fold, is_some, not, option_map, bytes_eq}
use Rattle.std.{specs.{List.list_all, Option.option_map_or}, proofs.lemmas.{Bool.{and_from, and_parts, not-true}, Slice.Eq.bytes_eq-Decides}}
use Rattle.{std.proofs.Math.Bool.or-false, clap.specs.{Simple.{Shape, built, entered, label_of, names_of, rows_at}, Walk.{Held, Names, Rule, Step, Text, Walk}}}
use Rattle.clap.specs.Walk.{after_step, answers_to, finished, first_of, idle, nothing_held, rows_after, subcommand_met, subcommand_or_other, walk, walk_from}
use Rattle.clap.specs.{Walk.{walked, with_default}, Takes.{default_passes, entered_passes, is_given, is_valid, level_passes, other_passes, settle_passes}}
use Rattle.clap.specs.{Takes.{step_passes, walk_passes}, Faults.{entered_fault, level_fault, settle_fault, walk_fault}, Words.{fault_of, is_simple}}
use Rattle.clap.{specs.Words.{is_simple_and_free, subcommand_of, takes}, proofs.{OnLiterals.clap_on_literals, WalkLemmas.{find-map, walk_stopped}}}
use Rattle.crossbar5_command.specs.{Ask.{IsAskOf, IsAskWith}, Fault.{conflict_in, conflict_of}, Program.{program, program_of, subcommands}}
use Rattle.crossbar5_command.specs.Subcommand.{AreOptions, AreValues, AskFor, GivenOption, Subcommand, subcommand_named, value_of, words_of}
use Rattle.crossbar5_command.{specs.declared.command_line.Ask.Ask, proofs.{FirstFound.{found_first, found_passes}, OptionRows.values_of_rows}}
use Rattle.crossbar5_command.proofs.OptionRules.{all_rules, are_sound, defaults_pass, first_shape, is_sound_option, level, rules_for}
use Rattle.crossbar5_command.proofs.{OptionWords.{all_new, options_read, options_taken, other_way}, ValueWords.{or_else-first, or_else-second}}

-- ---- the subcommand that a name finds

-- among those that clap built, with `help` after them
shape_by_name : (subs : List Subcommand) (name : Text) → bytes_eq (codes "help") name ≡ false
    → find (λ shape. answers_to name (label_of shape)) (built (program_of subs)).subs ≡ option_map level (subcommand_named subs name)
shape_by_name [] name no_help = ap (λ same. cond (same || false) (Some (first_shape (built (program_of [])).subs)) None) no_help
shape_by_name (s ∷ rest) name no_help = found_first level _ _ (or-false (bytes_eq s.name name)) s _ _ (shape_by_name rest name no_help)

-- and among their names
abbrev pub label : Option Subcommand → Option (Text × List Text)
label found = option_map label_of (option_map level found)

pub label_by_name : (subs : List Subcommand) (name : Text) → bytes_eq (codes "help") name ≡ false
    → find (answers_to name) (names_of (built (program_of subs))) ≡ label (subcommand_named subs name)
label_by_name subs name no_help =
    sym (find-map (answers_to name) label_of (built (program_of subs)).subs) ∙ ap (option_map label_of) (shape_by_name subs name no_help)

-- its options are sound, and it isn't `help`
abbrev is_sound : Subcommand → Bool
is_sound s = are_sound s.options && not (bytes_eq s.name (codes "help"))

sound_found : (subs : List Subcommand) (name : Text) (s : Subcommand) → list_all is_sound subs ≡ true → subcommand_named subs name ≡ Some s
    → (s.name ≡ name) × (is_sound s ≡ true)
sound_found subs name s are is =
    let passes = found_passes (λ x. bytes_eq x.name name) is_sound subs s are is in
    ((bytes_eq-Decides s.name name).0 passes.0, passes.1)

all_sound : list_all is_sound subcommands ≡ true
unfolding clap_on_literals
all_sound = refl

-- ---- the program's own level

pub program_is_simple : is_simple program ≡ true
unfolding clap_on_literals
program_is_simple = refl

pub program_is_free : is_simple_and_free program ≡ true
unfolding clap_on_literals
program_is_free = refl

abbrev pub top : Shape
top = (built program).top

abbrev pub names : Names
names = names_of (built program)

abbrev top_walk : List Text → Walk
top_walk words = walk top.rules names nothing_held words

abbrev stopped_at : Text → List Text → Walk
stopped_at name words = record (walk_from nothing_held) { stopped = Some (name, words) }

-- after a subcommand the words are left to it, so they pass
stopped_passes : (name : Text) (seen words : List Text) → walk_passes top names (stopped_at name seen) words ≡ true
unfolding walk_passes walked
stopped_passes name seen [] = refl
stopped_passes name seen (word ∷ words) = stopped_passes name (seen ++ word ∷ []) words

-- the checks at the end of the words
abbrev top_checks : Walk → Bool
top_checks w = settle_passes top.rules top.args_override_self w.held
    && (list_all default_passes top.rules && is_valid top (finished top.rules w.held) (is_some (entered (built program) w.stopped)))

module _ (name : Text) (s : Subcommand) (is : subcommand_named subcommands name ≡ Some s) where
  abbrev rules : List Rule
  rules = rules_for s.options

  pub named : s.name ≡ name
  named = (sound_found subcommands name s all_sound is).0

  sound : is_sound s ≡ true
  sound = (sound_found subcommands name s all_sound is).1

  options_sound : are_sound s.options ≡ true
  options_sound = (and_parts (are_sound s.options) _ sound).0

  pub found : subcommand_named subcommands s.name ≡ Some s
  found = ap (subcommand_named subcommands) named ∙ is

  no_help : bytes_eq (codes "help") s.name ≡ false
  no_help = other_way s.name (codes "help") (not-true _ (and_parts (are_sound s.options) _ sound).1)

  met_name : subcommand_met names idle name ≡ Some s.name
  met_name = ap (option_map (λ label. label.0)) (label_by_name subcommands name (ap (bytes_eq (codes "help")) (sym named) ∙ no_help)
      ∙ ap label is)

  abbrev step : Option Text → Held × Step
  step met = subcommand_or_other top.rules met idle 1 name nothing_held

  first_walked : walked top.rules names (walk_from nothing_held) name ≡ stopped_at s.name []
  unfolding clap_on_literals
  first_walked = ap (λ met. after_step top.rules name (walk_from nothing_held) (step met).0 (step met).1) met_name

  stops : (words : List Text) → top_walk (name ∷ words) ≡ stopped_at s.name words
  unfolding clap_on_literals
  stops words = ap (λ w. fold (walked top.rules names) w words) first_walked ∙ sym (walk_stopped top.rules names (stopped_at s.name []) s.name [] words)

  shape_is : find (λ shape. answers_to s.name (label_of shape)) (built program).subs ≡ Some (level s)
  shape_is = shape_by_name subcommands s.name no_help ∙ ap (option_map level) found

  -- clap finds it, with the matches of the words after it
  pub subcommand_is : (line : Text) (words : List Text) → subcommand_of program (line ∷ name ∷ words) ≡ Some (s.name, rows_after rules [] words)
  unfolding clap_on_literals
  subcommand_is line words =
      ap (λ (w : Walk). entered (built program) w.stopped) (stops words) ∙ ap (option_map (λ shape. rows_at shape words)) shape_is

  first_passes : other_passes top (Some s.name) name nothing_held ≡ true
  first_passes = ap (λ same. not same || top.disable_help_subcommand) (not-true _ (and_parts (are_sound s.options) _ sound).1)

  -- the program takes the words if the subcommand takes those after it
  takes-subcommand : (line : Text) (words : List Text) → level_passes (level s) [] nothing_held words false ≡ true
      → takes program (line ∷ name ∷ words) ≡ true
  unfolding clap_on_literals
  takes-subcommand line words passes =
      let below : entered_passes (built program) (top_walk (name ∷ words)).stopped ≡ true =
      ap (λ (w : Walk). entered_passes (built program) w.stopped) (stops words)
      ∙ ap (λ shape. option_map_or (λ sub. level_passes sub [] nothing_held words false) shape true) shape_is ∙ passes in
      let first = and_from _ _ (ap (λ met. other_passes top met name nothing_held) met_name ∙ first_passes)
      (ap (λ met. step_passes top 1 (step met).0 (step met).1) met_name) in
      let others : walk_passes top names (walked top.rules names (walk_from nothing_held) name) words ≡ true =
      ap (λ w. walk_passes top names w words) first_walked ∙ stopped_passes s.name [] words in
      let checked : top_checks (top_walk (name ∷ words)) ≡ true = ap top_checks (stops words) in
      and_from _ _ below (and_from _ _ (and_from _ _ first others) checked)

  -- if the program refuses none of the words, the subcommand refuses none of those after it
  fault_of-subcommand : (line : Text) (words : List Text) → fault_of program (line ∷ name ∷ words) ≡ []
      → level_fault (level s) [] nothing_held words false [] ≡ []
  unfolding clap_on_literals
  fault_of-subcommand line words none =
      let below = or_else-second (walk_fault top names (walk_from nothing_held) (name ∷ words)) _ none in
      let entered_level = or_else-first (entered_fault (built program) (top_walk (name ∷ words)).stopped) _ below in
      sym (ap (λ (w : Walk). entered_fault (built program) w.stopped) (stops words)
      ∙ ap (λ shape. option_map_or (λ sub. level_fault sub [] nothing_held words false []) shape []) shape_is)
      ∙ entered_level

  -- ---- the words after it

  level_taken : (given : List GivenOption) → AreOptions s.options given → AreValues s.options given
      → level_passes (level s) [] nothing_held (flat_map words_of given) false ≡ true
  level_taken given options values =
      let walk_taken = options_taken s given [] None options_sound options values (all_new given) refl in
      and_from _ _ walk_taken.0 (and_from _ _ walk_taken.1
      (and_from _ _ (defaults_pass s.options (and_parts (list_all is_sound_option s.options) _ options_sound).0)
      (and_from _ _ (all_rules (λ a. a.is_free) (λ o. refl) refl s.options)
      (all_rules (λ a. not a.required || is_given a.id (finished rules (walk rules [] nothing_held (flat_map words_of given)).held))
      (λ o. refl) refl s.options))))

  level_read : (given : List GivenOption) → AreOptions s.options given
      → level_fault (level s) [] nothing_held (flat_map words_of given) false [] ≡ []
      → (id : Text) → first_of id (rows_after rules [] (flat_map words_of given)) ≡ value_of s.options given id
  level_read given options none id =
      let words = flat_map words_of given in
      let end = (walk rules [] nothing_held words).held in
      let after_walk = or_else-second (walk_fault (level s) [] (walk_from nothing_held) words) _ none in
      let read = options_read s given [] None options_sound options (all_new given)
      (or_else-first (walk_fault (level s) [] (walk_from nothing_held) words) _ none) (or_else-first (settle_fault rules false end) _ after_walk) in
      ap (λ rows. first_of id (fold with_default rows rules)) read
      ∙ values_of_rows s.options given id (and_parts (list_all is_sound_option s.options) _ options_sound).1

-- ---- words that ask for a subcommand

pub words_taken : (words : List Text) (s : Subcommand) (given : List GivenOption) → AskFor subcommands words s given
    → AreValues s.options given → takes program words ≡ true
words_taken [] s given asks values = absurd asks
words_taken (line ∷ []) s given asks values = absurd asks
words_taken (line ∷ name ∷ more) s given asks values =
    takes-subcommand name s asks.0 line more
    (ap (λ ws. level_passes (level s) [] nothing_held ws false) asks.1 ∙ level_taken name s asks.0 given asks.2 values)

-- with the same values the ask is the same
same_values : (name : Text) (values others : Text → Option Text) (ask : Ask) → ((id : Text) → values id ≡ others id)
    → IsAskWith name values ask → IsAskWith name others ask
same_values name values others ask same is = subst (λ vs. IsAskWith name vs ask) (λ i id. same id i) is

pub words_read : (words : List Text) (s : Subcommand) (given : List GivenOption) (ask : Ask) → AskFor subcommands words s given
    → fault_of program words ≡ [] → IsAskOf (subcommand_of program words) ask → IsAskWith s.name (value_of s.options given) ask
words_read [] s given ask asks none of_clap = absurd asks
words_read (line ∷ []) s given ask asks none of_clap = absurd asks
words_read (line ∷ name ∷ more) s given ask asks none of_clap =
    let here = subcommand_is name s asks.0 line more in
    let none_behind = sym (ap (λ ws. level_fault (level s) [] nothing_held ws false []) asks.1) ∙ fault_of-subcommand name s asks.0 line more none in
    same_values s.name _ _ ask
    (λ id. ap (λ ws. first_of id (rows_after (rules_for s.options) [] ws)) asks.1 ∙ level_read name s asks.0 given asks.2 none_behind id)
    (subst (λ met. IsAskOf met ask) here of_clap)

-- two forms among the options are two forms in what clap found
pub words_conflict : (words : List Text) (s : Subcommand) (given : List GivenOption) → AskFor subcommands words s given
    → fault_of program words ≡ [] → conflict_of (subcommand_of program words) ≡ conflict_in s.options (value_of s.options given)
words_conflict [] s given asks none = absurd asks
words_conflict (line ∷ []) s given asks none = absurd asks
words_conflict (line ∷ name ∷ more) s given asks none =
    let rows = rows_after (rules_for s.options) [] more in
    let none_behind = sym (ap (λ ws. level_fault (level s) [] nothing_held ws false []) asks.1) ∙ fault_of-subcommand name s asks.0 line more none in
    ap conflict_of (subcommand_is name s asks.0 line more)
    ∙ ap (λ met. option_map_or (λ s. conflict_in s.options (λ id. first_of id rows)) met []) (found name s asks.0)
    ∙ ap (conflict_in s.options) (λ i id. (ap (λ ws. first_of id (rows_after (rules_for s.options) [] ws)) asks.1
    ∙ level_read name s asks.0 given asks.2 none_behind id) i)
