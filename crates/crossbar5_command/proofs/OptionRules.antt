-- What clap builds of the options of a subcommand, and which of them a name finds.
use Rattle.std.proofs.Common.{◌≡◌, ◌∙◌, ◌&&◌, ◌+◌, ap, arith, refl, sym, cond, Bool, true, false, true≢false, List, [], ◌∷◌, ◌++◌, Some, None, ℕ, suc, length}
use Rattle.std.proofs.Common.{map, nat_lt, take, codes, ◌||◌, ◌==◌, not, is_some, option_map, bytes_eq}
use Rattle.std.specs.List.{after_first, before_first, list_all, list_any, position_or_len}
use Rattle.std.proofs.{lemmas.{Bool.{and_from, and_parts, not-true, or_parts}, Slice.Eq.bytes_eq-Decides}, Math.Bool.or-false}
use Rattle.clap.specs.{Lexer.{has_byte, long_of}, Simple.{Shape, built, filled, filled_from, help_rule, new_shape}, Takes.default_passes}
use Rattle.{clap.specs.Walk.{Rule, Text, arg_by_id, arg_by_index, arg_by_long}, crossbar5_command.specs.Program.{program_of, rule_for}}
use Rattle.crossbar5_command.{specs.Subcommand.{NamedOption, Subcommand, hyphen, option_named}, proofs.FirstFound.{found_first, found_passes}}

-- an option as clap builds it, and all of a subcommand, with the `help` that it adds
abbrev pub built_rule : NamedOption → Rule
built_rule o = filled (rule_for o)

abbrev pub rules_for : List NamedOption → List Rule
rules_for options = filled_from 1 (map rule_for options ++ help_rule ∷ [])

abbrev pub first_shape : List Shape → Shape
first_shape [] = new_shape []
first_shape (shape ∷ rest) = shape

-- a subcommand as clap builds it
abbrev pub level : Subcommand → Shape
level s = first_shape (built (program_of (s ∷ []))).subs

-- a name that an option can have: it isn't empty, has no `=`, and isn't `help`
abbrev pub is_plain_name : Text → Bool
is_plain_name name = nat_lt 0 (length name) && (not (has_byte 61 name) && not (bytes_eq (codes "help") name))

-- the name is plain, and the default passes the test
abbrev pub is_sound_option : NamedOption → Bool
is_sound_option o = is_plain_name o.name && default_passes (built_rule o)

abbrev pub are_apart : List NamedOption → Bool
are_apart [] = true
are_apart (o ∷ rest) = not (is_some (option_named rest o.name)) && are_apart rest

-- each option is sound, and their names differ
abbrev pub are_sound : List NamedOption → Bool
are_sound options = list_all is_sound_option options && are_apart options

-- ---- the rule that a name finds

module _ (name : Text) where
  pub rule_by_long : (options : List NamedOption) → bytes_eq (codes "help") name ≡ false
      → arg_by_long (rules_for options) name ≡ option_map built_rule (option_named options name)
  rule_by_long [] no_help = ap (λ same. cond (same || false) (Some (filled help_rule)) None) no_help
  rule_by_long (o ∷ rest) no_help =
      found_first built_rule _ _ (or-false (bytes_eq o.name name)) o _ _ (rule_by_long rest no_help)

  pub rule_by_id : (options : List NamedOption) → bytes_eq (codes "help") name ≡ false
      → arg_by_id (rules_for options) name ≡ option_map built_rule (option_named options name)
  rule_by_id [] no_help = ap (λ same. cond same (Some (filled help_rule)) None) no_help
  rule_by_id (o ∷ rest) no_help = found_first built_rule (bytes_eq o.name name) _ refl o _ _ (rule_by_id rest no_help)

-- none is positional
pub no_positional : (options : List NamedOption) (i : ℕ) → arg_by_index (rules_for options) i ≡ None
no_positional [] i = refl
no_positional (o ∷ rest) i = no_positional rest i

-- what holds of each rule that clap builds, all pass
pub all_rules : (p : Rule → Bool) → ((o : NamedOption) → p (built_rule o) ≡ true) → p (filled help_rule) ≡ true
    → (options : List NamedOption) → list_all p (rules_for options) ≡ true
all_rules p each help [] = and_from _ _ help refl
all_rules p each help (o ∷ rest) = and_from _ _ (each o) (all_rules p each help rest)

pub defaults_pass : (options : List NamedOption) → list_all is_sound_option options ≡ true → list_all default_passes (rules_for options) ≡ true
defaults_pass [] are = refl
defaults_pass (o ∷ rest) are =
    let parts = and_parts (is_sound_option o) (list_all is_sound_option rest) are in
    and_from _ _ (and_parts (is_plain_name o.name) _ parts.0).1 (defaults_pass rest parts.1)

-- ---- the option that a name finds

pub same_text : (name : Text) → bytes_eq name name ≡ true
same_text name = (bytes_eq-Decides name name).1 refl

-- it has the name, which is plain
pub name_found : (name : Text) (options : List NamedOption) (o : NamedOption) → are_sound options ≡ true → option_named options name ≡ Some o
    → (o.name ≡ name) × (is_plain_name name ≡ true)
name_found name options o are is =
    let passes = found_passes (λ x. bytes_eq x.name name) is_sound_option options o (and_parts (list_all is_sound_option options) _ are).0 is in
    let equal = (bytes_eq-Decides o.name name).0 passes.0 in
    (equal, sym (ap is_plain_name equal) ∙ (and_parts (is_plain_name o.name) _ passes.1).0)

-- ---- the word of an option

whole : (p : ℕ → Bool) (xs : Text) → list_any p xs ≡ false → before_first p xs ≡ xs
whole p [] none = refl
whole p (x ∷ xs) none = go (p x) (or_parts _ _ none).0 (whole p xs (or_parts _ _ none).1)
  where
    go : (here : Bool) → here ≡ false → before_first p xs ≡ xs → take (cond (not here) (1 + position_or_len p xs) 0) (x ∷ xs) ≡ x ∷ xs
    go true is rest = absurd (true≢false is)
    go false is rest =
        let next : 1 + position_or_len p xs ≡ suc (position_or_len p xs) = omega arith in
        ap (λ n. take n (x ∷ xs)) next ∙ ap (λ ys. x ∷ ys) rest

-- the option's word is read as its name, and does not end the options
pub record IsLong (name : Text) : Type 0 where
  pub reads : long_of (hyphen ∷ hyphen ∷ name) ≡ Some (name, None)
  pub goes_on : bytes_eq (hyphen ∷ hyphen ∷ name) (hyphen ∷ hyphen ∷ []) ≡ false

pub is_long : (name : Text) → is_plain_name name ≡ true → IsLong name
is_long [] plain = absurd (true≢false (sym plain))
is_long (x ∷ xs) plain =
    let name = x ∷ xs in
    let no_sign : has_byte 61 name ≡ false = not-true _ (and_parts _ _ (and_parts _ _ plain).1).0 in
    record {
      reads = ap (λ has. Some (before_first (λ c. c == 61) name, cond has (Some (after_first (λ c. c == 61) name)) None)) no_sign
          ∙ ap (λ whole_name. Some (whole_name, None)) (whole (λ c. c == 61) name no_sign);
      goes_on = refl;
    }

pub no_help : (name : Text) → is_plain_name name ≡ true → bytes_eq (codes "help") name ≡ false
no_help name plain = not-true _ (and_parts _ _ (and_parts _ _ plain).1).1
