-- What clap refuses at the place of the subcommand, and what it finds in words that it accepts.
use Rattle.std.proofs.Common.{◌≡◌, ◌∙◌, ◌≤◌, ◌⊎◌, inl, inr, ap, arith, refl, sym, subst, cond, Bool, true, false, List, [], ◌∷◌, Option, Some, None, ℕ, length}
use Rattle.std.proofs.Common.{codes, IfSome, IsSome, is_some, slice_get, option_map, bytes_eq, chars}
use Rattle.std.{specs.Option.option_map_or, proofs.lemmas.Slice.Eq.bytes_eq-Decides}
use Rattle.clap.specs.{Kinds.Kinds, Lexer.{long_of, short_of}, Walk.{Held, Rule, Step, Text, after_flag, bundle, bundle_met, bundle_step, idle, long_or_other}}
use Rattle.clap.specs.Walk.{nothing_held, plain, short_or_plain, subcommand_met, subcommand_or_other, trailing, value, walk_from, word_met}
use Rattle.clap.specs.{Words.{fault_of, subcommand_of, takes}, Faults.{bundle_fault, bundle_step_fault, flag_word_fault, flags_fault, long_fault, other_fault}}
use Rattle.clap.{specs.Faults.{short_fault, step_fault, turn_fault, walk_fault, word_fault}, proofs.OnLiterals.clap_on_literals}
use Rattle.crossbar5_command.specs.{Ask.{IsAskOf, name_of}, Program.{program, replay, subcommands}, Subcommand.{NamesOnly, Subcommand, subcommand_named}}
use Rattle.crossbar5_command.{specs.declared.command_line.Ask.Ask, proofs.SubcommandWords.{found, label, label_by_name, named, names, subcommand_is, top}}
use Rattle.crossbar5_command.proofs.ValueWords.{IsRefused, dashes, or_else-first, or_else-second, some_refused}
use Rattle.clap.specs.declared.error.kind.ErrorKind.TheVariants as kind

-- the flag that a word names, by whether it names either
abbrev help_or_version : Bool → Bool → Option Rule
help_or_version is_help is_version = cond is_help (slice_get top.rules 0) (cond is_version (slice_get top.rules 1) None)

-- no flag is taken
long_refused : (is_help is_version : Bool) (given : Option Text)
    → IsRefused (long_fault top.rules false (help_or_version is_help is_version) given nothing_held)
unfolding clap_on_literals
long_refused true is_version None = some_refused kind.DisplayHelp []
long_refused true is_version (Some v) = some_refused kind.TooManyValues []
long_refused false true None = some_refused kind.DisplayVersion []
long_refused false true (Some v) = some_refused kind.TooManyValues []
long_refused false false given = some_refused kind.UnknownArgument []

short_refused : (is_help is_version : Bool) (rest : Text) (next : Held → Kinds)
    → IsRefused (short_fault top.rules false (help_or_version is_help is_version) rest nothing_held next)
unfolding clap_on_literals
short_refused true is_version rest next = some_refused kind.DisplayHelp []
short_refused false true rest next = some_refused kind.DisplayVersion []
short_refused false false rest next = some_refused kind.UnknownArgument []

-- so a bundle with no fault is no flag
bundle_read : (flags : Text) → bundle_fault top.rules false flags nothing_held ≡ [] → bundle top.rules flags nothing_held ≡ (nothing_held, plain)
unfolding flags_fault bundle_met
bundle_read [] none = refl
bundle_read (flag ∷ flags) none = go (slice_get (chars (flag ∷ flags)) 0) refl
  where
    go : (first : Option ℕ) → slice_get (chars (flag ∷ flags)) 0 ≡ first → bundle top.rules (flag ∷ flags) nothing_held ≡ (nothing_held, plain)
    go None is = ap (λ first. bundle_step top.rules first (flag ∷ flags) 0 plain nothing_held (bundle_met top.rules (length flags))) is
    go (Some x) is =
        let no_fault =
        sym (ap (λ first. bundle_step_fault top.rules false first (flag ∷ flags) 0 nothing_held (flags_fault top.rules false (length flags))) is) ∙ none in
        absurd (short_refused _ _ _ _ no_fault)

-- `help` is answered with a text
help_refused : IsRefused (turn_fault top names (walk_from nothing_held) (codes "help"))
unfolding clap_on_literals
help_refused = some_refused kind.DisplayHelp (kind.InvalidSubcommand ∷ [])

-- ---- a word at the place of the subcommand
module _ (word : Text) where
  abbrev met : Held × Step
  met = word_met top.rules names false idle 1 word nothing_held

  -- one that isn't refused is not stray
  stray : met ≡ (nothing_held, value) → IsRefused (step_fault top 1 met.0 met.1)
  unfolding clap_on_literals
  stray is none =
      some_refused kind.UnknownArgument (kind.InvalidSubcommand ∷ [])
      (sym (ap (λ (m : Held × Step). step_fault top 1 m.0 m.1) is) ∙ none)

  -- neither a subcommand nor the end of the options, it is no flag
  module _ (no_name : subcommand_met names idle word ≡ None) (no_end : bytes_eq word dashes ≡ false) where
    as_long : met ≡ long_or_other top.rules idle word (long_of word) nothing_held
    as_long =
        ap (λ name. subcommand_or_other top.rules name idle 1 word nothing_held) no_name
        ∙ ap (λ end. cond end (nothing_held, trailing 1) (long_or_other top.rules idle word (long_of word) nothing_held)) no_end

    by_short : (short : Option Text) → short_of word ≡ short → long_of word ≡ None
        → option_map_or (λ flags. bundle_fault top.rules false flags nothing_held) short [] ≡ [] → met ≡ (nothing_held, value)
    by_short None is no_long none =
        as_long ∙ ap (λ long. long_or_other top.rules idle word long nothing_held) no_long
        ∙ ap (λ short. short_or_plain top.rules idle word short nothing_held) is
    by_short (Some flags) is no_long none =
        as_long ∙ ap (λ long. long_or_other top.rules idle word long nothing_held) no_long
        ∙ ap (λ short. short_or_plain top.rules idle word short nothing_held) is
        ∙ ap (λ m. after_flag top.rules idle word m.0 m.1) (bundle_read flags none)

    by_long : (long : Option (Text × Option Text)) → long_of word ≡ long → flag_word_fault top.rules false long word nothing_held ≡ []
        → met ≡ (nothing_held, value)
    by_long (Some p) is none = absurd (long_refused _ _ p.1 none)
    by_long None is none = by_short (short_of word) refl is none

  by_end : subcommand_met names idle word ≡ None → (end : Bool) → bytes_eq word dashes ≡ end
      → cond end [] (flag_word_fault top.rules false (long_of word) word nothing_held) ≡ [] → step_fault top 1 met.0 met.1 ≡ []
      → word ≡ dashes
  by_end no_name true is none none_of_step = (bytes_eq-Decides word dashes).0 is
  by_end no_name false is none none_of_step = absurd (stray (by_long no_name is (long_of word) refl none) none_of_step)

  -- so if no subcommand has its name, it is the end of the options
  by_no_name : subcommand_named subcommands word ≡ None → turn_fault top names (walk_from nothing_held) word ≡ [] → word ≡ dashes
  by_no_name none_named none = go (bytes_eq (codes "help") word) refl
    where
      go : (is_help : Bool) → bytes_eq (codes "help") word ≡ is_help → word ≡ dashes
      go true is =
          absurd (help_refused (subst (λ w. turn_fault top names (walk_from nothing_held) w ≡ []) (sym ((bytes_eq-Decides (codes "help") word).0 is)) none))
      go false no_help =
          let no_name : subcommand_met names idle word ≡ None =
          ap (option_map (λ names. names.0)) (label_by_name subcommands word no_help ∙ ap label none_named) in
          let fault = word_fault top names false idle word nothing_held in
          let none_of_word = sym (ap (λ name. other_fault top name word nothing_held) no_name) ∙ or_else-first fault (step_fault top 1 met.0 met.1) none in
          by_end no_name (bytes_eq word dashes) refl none_of_word (or_else-second fault (step_fault top 1 met.0 met.1) none)

-- no word follows `--`
nothing_more : (words : List Text) → walk_fault top names (walk_from nothing_held) (dashes ∷ words) ≡ [] → words ≡ []
unfolding clap_on_literals
nothing_more [] none = refl
nothing_more (word ∷ words) none = absurd (some_refused kind.UnknownArgument (kind.InvalidSubcommand ∷ []) none)

first_fault : (name word : Text) (words : List Text) → fault_of program (name ∷ word ∷ words) ≡ []
    → walk_fault top names (walk_from nothing_held) (word ∷ words) ≡ []
unfolding clap_on_literals
first_fault name word words none = or_else-first (walk_fault top names (walk_from nothing_held) (word ∷ words)) _ none

first_turn : (word : Text) (words : List Text) → walk_fault top names (walk_from nothing_held) (word ∷ words) ≡ []
    → turn_fault top names (walk_from nothing_held) word ≡ []
unfolding walk_fault
first_turn word words none = or_else-first (turn_fault top names (walk_from nothing_held) word) _ none

-- words with no subcommand in its place
pub no_subcommand : (words : List Text) → length words ≤ 1 → (takes program words ≡ true) × (subcommand_of program words ≡ None)
unfolding clap_on_literals
no_subcommand [] few = (refl, refl)
no_subcommand (line ∷ []) few = (refl, refl)
no_subcommand (line ∷ word ∷ words) few = absurd (omega arith)

end_alone : (line : Text) → subcommand_of program (line ∷ dashes ∷ []) ≡ None
unfolding clap_on_literals
end_alone line = refl

-- in its place is a subcommand, or `--` alone
abbrev IsNamed : Text → List Text → Type 0
IsNamed word words = ((s : Subcommand) × (subcommand_named subcommands word ≡ Some s)) ⊎ ((word ≡ dashes) × (words ≡ []))

is_named : (line word : Text) (words : List Text) → fault_of program (line ∷ word ∷ words) ≡ [] → IsNamed word words
is_named line word words none = go (subcommand_named subcommands word) refl
  where
    faults : walk_fault top names (walk_from nothing_held) (word ∷ words) ≡ []
    faults = first_fault line word words none

    go : (met : Option Subcommand) → subcommand_named subcommands word ≡ met → IsNamed word words
    go (Some s) is = inl (s, is)
    go None is =
        let ends = by_no_name word is (first_turn word words faults) in
        inr (ends, nothing_more words (subst (λ w. walk_fault top names (walk_from nothing_held) (w ∷ words) ≡ []) ends faults))

-- what clap finds is one of the subcommands
pub subcommand_known : (words : List Text) → fault_of program words ≡ []
    → IfSome (subcommand_of program words) (λ met. IsSome (subcommand_named subcommands met.0))
subcommand_known [] none = subst (λ met. IfSome met (λ p. IsSome (subcommand_named subcommands p.0))) (sym (no_subcommand [] (omega arith)).1) tt
subcommand_known (line ∷ []) none =
    subst (λ met. IfSome met (λ p. IsSome (subcommand_named subcommands p.0))) (sym (no_subcommand (line ∷ []) (omega arith)).1) tt
subcommand_known (line ∷ word ∷ words) none = elim (is_named line word words none) [
  | inl one ↦ subst (λ met. IfSome met (λ p. IsSome (subcommand_named subcommands p.0)))
      (sym (subcommand_is word one.0 one.1 line words)) (ap is_some (found word one.0 one.1))
  | inr ends ↦ subst (λ met. IfSome met (λ p. IsSome (subcommand_named subcommands p.0)))
      (sym (ap (λ w. subcommand_of program (line ∷ w ∷ words)) ends.0 ∙ ap (λ ws. subcommand_of program (line ∷ dashes ∷ ws)) ends.1 ∙ end_alone line)) tt
]

-- and the words name the one that is asked for
pub names_only : (words : List Text) (ask : Ask) → fault_of program words ≡ [] → IsAskOf (subcommand_of program words) ask
    → NamesOnly replay.name (name_of ask) words
names_only [] ask none asked = (subst (λ met. IsAskOf met ask) (no_subcommand [] (omega arith)).1 asked).0
names_only (line ∷ []) ask none asked = (subst (λ met. IsAskOf met ask) (no_subcommand (line ∷ []) (omega arith)).1 asked).0
names_only (line ∷ word ∷ words) ask none asked = elim (is_named line word words none) [
  | inl one ↦ inl (sym ((subst (λ met. IsAskOf met ask) (subcommand_is word one.0 one.1 line words) asked).0 ∙ named word one.0 one.1))
  | inr ends ↦ inr (
    ends.0,
    ends.1,
    (subst (λ met. IsAskOf met ask)
        (ap (λ w. subcommand_of program (line ∷ w ∷ words)) ends.0 ∙ ap (λ ws. subcommand_of program (line ∷ dashes ∷ ws)) ends.1 ∙ end_alone line) asked).0,
  )
]
