-- How clap reads a word after an option that waits for its value.
use Rattle.std.proofs.Common.{◌≡◌, ◌∙◌, ◌⊎◌, inl, inr, ap, arith, refl, sym, suc, Bool, true, false, List, [], ◌∷◌, Option, Some, None, ℕ, length, cond, nat_eq}
use Rattle.std.proofs.Common.{◌&&◌, ◌||◌, slice_get, is_some, option_and_then, bytes_eq, chars, ne_eqb}
use Rattle.std.{specs.Option.option_map_or, proofs.lemmas.{Bool.and_from, Slice.Eq.bytes_eq-Decides}}
use Rattle.clap.specs.{Lexer.{long_of, long_of_rest, short_of, short_of_rest, strip_byte}, Kinds.{Kinds, or_else}, Walk.{Held, Row, Rule, Text, Walk}}
use Rattle.clap.specs.Walk.{after_flag, arg_by_long, arg_by_short, attached_value, bundle, bundle_met, bundle_step, long_or_other, option, plain, plain_word}
use Rattle.clap.specs.{Walk.{reacted, short_or_plain, takes_values, trailing, word_met}, Takes.{bundle_passes, flag_word_passes, step_passes, turn_passes}}
use Rattle.clap.specs.Faults.{bundle_fault, bundle_step_fault, flag_word_fault, flags_fault, long_fault, option_fault, react_fault, settle_fault, short_fault}
use Rattle.{clap.specs.{Faults.{turn_fault, word_fault}, declared.error.kind.ErrorKind.ErrorKind}, crossbar5_command.specs.Subcommand.{IsPlainText, Subcommand}}
use Rattle.crossbar5_command.proofs.OptionRules.{level, rules_for}
use Rattle.clap.specs.declared.error.kind.ErrorKind.TheVariants as kind

-- ---- kinds of error, one list after the other

pub or_else-first : (a b : Kinds) → or_else a b ≡ [] → a ≡ []
or_else-first [] b none = refl
or_else-first (k ∷ ks) b none = none

pub or_else-second : (a b : Kinds) → or_else a b ≡ [] → b ≡ []
or_else-second [] b none = none
or_else-second (k ∷ ks) b none = let bad : suc (length ks) ≡ 0 = ap length none in absurd (omega arith)

abbrev pub IsRefused : Kinds → Type 0
IsRefused kinds = kinds ≡ [] → ⊥

pub some_refused : (kind : ErrorKind) (kinds : Kinds) → IsRefused (kind ∷ kinds)
some_refused kind kinds none = let bad : suc (length kinds) ≡ 0 = ap length none in absurd (omega arith)

-- ---- a word after an option

-- what is held while an option waits for its value
abbrev pub waiting_for : Text → List Row → Held
waiting_for id rows = record { rows = rows; pending = Some (id, []); skip = 0 }

-- the walk before the value of an option
abbrev pub before_value : Text → List Row → Walk
before_value id rows = record { held = waiting_for id rows; waiting = option id; position = 1; is_trailing = false; stopped = None }

-- the word that ends the options
abbrev pub dashes : Text
dashes = 45 ∷ 45 ∷ []

module _ (s : Subcommand) where
  abbrev rules : List Rule
  rules = rules_for s.options

  -- the word is the value of the option
  abbrev pub IsRead : Text → List Row → Text → Type 0
  IsRead id rows value =
      word_met rules [] false (option id) 1 value (waiting_for id rows) ≡ plain_word rules (option id) value (waiting_for id rows)

  -- a word that is neither `--` nor a flag is the value
  plain_read : (id : Text) (rows : List Row) (value : Text) → bytes_eq value dashes ≡ false → long_of value ≡ None → short_of value ≡ None
      → IsRead id rows value
  plain_read id rows value no_end no_long no_short =
      ap (λ end. cond end (waiting_for id rows, trailing 1) (long_or_other rules (option id) value (long_of value) (waiting_for id rows))) no_end
      ∙ ap (λ long. long_or_other rules (option id) value long (waiting_for id rows)) no_long
      ∙ ap (λ short. short_or_plain rules (option id) value short (waiting_for id rows)) no_short

  -- and it passes
  plain_passes : (id : Text) (rows : List Row) (value : Text) → bytes_eq value dashes ≡ false → long_of value ≡ None → short_of value ≡ None
      → turn_passes (level s) [] (before_value id rows) value ≡ true
  plain_passes id rows value no_end no_long no_short =
      let h = waiting_for id rows in
      and_from _ _
      (ap (λ end. end || flag_word_passes rules false (long_of value) value h) no_end
      ∙ ap (λ long. flag_word_passes rules false long value h) no_long
      ∙ ap (λ short. option_map_or (λ flags. bundle_passes rules false flags h) short true) no_short)
      (ap (λ met. step_passes (level s) 1 met.0 met.1) (plain_read id rows value no_end no_long no_short))

  -- a word that begins with no hyphen is the value, and passes
  pub value_read : (id : Text) (rows : List Row) (value : Text) → IsPlainText value
      → IsRead id rows value × (turn_passes (level s) [] (before_value id rows) value ≡ true)
  value_read id rows [] is = absurd is
  value_read id rows (first ∷ rest) other =
      let differs : nat_eq first 45 ≡ false = ne_eqb first 45 other in
      let no_end : bytes_eq (first ∷ rest) dashes ≡ false = ap (λ same. same && bytes_eq rest (45 ∷ [])) differs in
      let no_long : long_of (first ∷ rest) ≡ None =
      ap (λ same. option_and_then long_of_rest (option_and_then (strip_byte 45) (cond same (Some rest) None))) differs in
      let no_short : short_of (first ∷ rest) ≡ None = ap (λ same. option_and_then short_of_rest (cond same (Some rest) None)) differs in
      (plain_read id rows (first ∷ rest) no_end no_long no_short, plain_passes id rows (first ∷ rest) no_end no_long no_short)

  -- no flag comes while an option waits for its value
  module _ (h : Held) (missing : IsRefused (settle_fault rules false h)) where
    reacting : (a : Rule) (values : List Text) → IsRefused (react_fault rules false a values h)
    reacting a values none = missing (or_else-first (settle_fault rules false h) _ none)

    opening : (a : Rule) (value : Option Text) → IsRefused (option_fault rules false a value h)
    opening a None none = missing none
    opening a (Some value) none = reacting a (value ∷ []) none

    long_refused : (found : Option Rule) (value : Option Text) → IsRefused (long_fault rules false found value h)
    long_refused None value none = some_refused kind.UnknownArgument [] none
    long_refused (Some a) value none = go (takes_values a) value none
      where
        go : (takes : Bool) (value : Option Text)
            → IsRefused (cond takes (option_fault rules false a value h) (cond (is_some value) (kind.TooManyValues ∷ []) (react_fault rules false a [] h)))
        go true value none = opening a value none
        go false None none = reacting a [] none
        go false (Some value) none = some_refused kind.TooManyValues [] none

    short_refused : (found : Option Rule) (rest : Text) (next : Held → Kinds) → IsRefused (short_fault rules false found rest h next)
    short_refused None rest next none = some_refused kind.UnknownArgument [] none
    short_refused (Some a) rest next none = go (takes_values a) none
      where
        go : (takes : Bool)
            → IsRefused (cond takes (option_fault rules false a (attached_value rest) h)
            (or_else (react_fault rules false a [] h) (next (reacted rules a [] h))))
        go true none = opening a (attached_value rest) none
        go false none = reacting a [] (or_else-first (react_fault rules false a [] h) _ none)

  -- a bundle with no fault is no flag
  bundle_read : (id : Text) (rows : List Row) → IsRefused (settle_fault rules false (waiting_for id rows)) → (flags : Text)
      → bundle_fault rules false flags (waiting_for id rows) ≡ [] → bundle rules flags (waiting_for id rows) ≡ (waiting_for id rows, plain)
  unfolding flags_fault bundle_met
  bundle_read id rows missing [] none = refl
  bundle_read id rows missing (flag ∷ flags) none = go (slice_get (chars (flag ∷ flags)) 0) refl
    where
      go : (first : Option ℕ) → slice_get (chars (flag ∷ flags)) 0 ≡ first → bundle rules (flag ∷ flags) (waiting_for id rows) ≡ (waiting_for id rows, plain)
      go None is = ap (λ first. bundle_step rules first (flag ∷ flags) 0 plain (waiting_for id rows) (bundle_met rules (length flags))) is
      go (Some x) is =
          let no_fault =
          sym (ap (λ first. bundle_step_fault rules false first (flag ∷ flags) 0 (waiting_for id rows) (flags_fault rules false (length flags))) is) ∙ none in
          absurd (short_refused (waiting_for id rows) missing (arg_by_short rules x) _ _ no_fault)

  -- a word that isn't refused is the value, or ends the options
  module _ (id : Text) (rows : List Row) (missing : IsRefused (settle_fault rules false (waiting_for id rows))) (value : Text) where
    by_short : (short : Option Text) → short_of value ≡ short → bytes_eq value dashes ≡ false → long_of value ≡ None
        → option_map_or (λ flags. bundle_fault rules false flags (waiting_for id rows)) short [] ≡ [] → IsRead id rows value
    by_short None is no_end no_long none = plain_read id rows value no_end no_long is
    by_short (Some flags) is no_end no_long none =
        let h = waiting_for id rows in
        ap (λ end. cond end (h, trailing 1) (long_or_other rules (option id) value (long_of value) h)) no_end
        ∙ ap (λ long. long_or_other rules (option id) value long h) no_long
        ∙ ap (λ short. short_or_plain rules (option id) value short h) is
        ∙ ap (λ met. after_flag rules (option id) value met.0 met.1) (bundle_read id rows missing flags none)

    by_long : (long : Option (Text × Option Text)) → long_of value ≡ long → bytes_eq value dashes ≡ false
        → flag_word_fault rules false long value (waiting_for id rows) ≡ [] → IsRead id rows value
    by_long (Some p) is no_end none = absurd (long_refused (waiting_for id rows) missing (arg_by_long rules p.0) p.1 none)
    by_long None is no_end none = by_short (short_of value) refl no_end is none

    by_end : (end : Bool) → bytes_eq value dashes ≡ end
        → cond end [] (flag_word_fault rules false (long_of value) value (waiting_for id rows)) ≡ [] → IsRead id rows value ⊎ (value ≡ dashes)
    by_end true is none = inr ((bytes_eq-Decides value dashes).0 is)
    by_end false is none = inl (by_long (long_of value) refl is none)

    pub value_or_end : turn_fault (level s) [] (before_value id rows) value ≡ [] → IsRead id rows value ⊎ (value ≡ dashes)
    value_or_end none =
        by_end (bytes_eq value dashes) refl
        (or_else-first (word_fault (level s) [] false (option id) value (waiting_for id rows)) _ none)
