-- A subcommand with options, and the words that ask for it.
use Rattle.std.specs.Prelude.{◌≡◌, ◌≢◌, ◌⊎◌, ℕ, true, false, List, [], ◌∷◌, Option, Some, None}
use Rattle.std.specs.Prelude.{IfSome, codes, find, flat_map, option_and_then, option_map, unwrap_or}
use Rattle.std.specs.Option.{IsSomeAnd, option_or}
use Rattle.std.specs.Str.{bytes_eq}
use Rattle.clap.specs.ValueTests.{accepts}
use Rattle.clap.specs.Words.{Text}
use Rattle.clap.specs.declared.builder.value_parser.ValueParser.{ValueParser}
use Rattle.clap.specs.declared.builder.value_parser.ValueParser.TheVariants.{String}

-- what follows an option's name: nothing, or one value, which may have a test and a default
pub data Argument : Type 0 where
  nothing : Argument
  value : Option ValueParser → Option Text → Argument

-- an option, by its name
pub record NamedOption : Type 0 where
  pub name : Text
  pub argument : Argument

-- a subcommand, with its options
pub record Subcommand : Type 0 where
  pub name : Text
  pub options : List NamedOption

-- an option as it is given on the command line: with a value, or alone
pub record GivenOption : Type 0 where
  pub name : Text
  pub value : Option Text

-- the subcommand of this name
abbrev pub subcommand_named : List Subcommand → Text → Option Subcommand
subcommand_named subcommands name = find (λ s. bytes_eq s.name name) subcommands

-- the option of this name
abbrev pub option_named : List NamedOption → Text → Option NamedOption
option_named options name = find (λ o. bytes_eq o.name name) options

-- the given option of this name
abbrev pub given_named : List GivenOption → Text → Option GivenOption
given_named given name = find (λ g. bytes_eq g.name name) given

-- ---- the words

-- the byte of a hyphen
abbrev pub hyphen : ℕ
hyphen = 45

-- the word of a value, if there is one
abbrev pub value_words : Option Text → List Text
value_words None = []
value_words (Some v) = v ∷ []

-- the words of an option: two hyphens and the name, and then the value
abbrev pub words_of : GivenOption → List Text
words_of g = (hyphen ∷ hyphen ∷ g.name) ∷ value_words g.value

-- there is a value exactly if the option takes one
abbrev pub Fits : Option Text → Argument → Type 0
Fits None nothing = Unit {0}
Fits (Some v) (value test default) = Unit {0}
Fits _ _ = ⊥

-- each given option is one of these, with a value exactly if it takes one, and none is given twice
abbrev pub AreOptions : List NamedOption → List GivenOption → Type 0
AreOptions options [] = Unit {0}
AreOptions options (g ∷ rest) =
    IsSomeAnd (option_named options g.name) (λ o. Fits g.value o.argument)
    × (given_named rest g.name ≡ None) × AreOptions options rest

-- the words ask for the subcommand with these options, in this order: the program's name, whatever
-- it is, the subcommand's name and the words of the options
abbrev pub AskFor : List Subcommand → List Text → Subcommand → List GivenOption → Type 0
AskFor subcommands (name ∷ subcommand ∷ more) s given =
    (subcommand_named subcommands subcommand ≡ Some s) × (more ≡ flat_map words_of given)
    × AreOptions s.options given
AskFor subcommands _ s given = ⊥

-- the program's name is followed by the subcommand's; or by nothing, or by `--` alone, for the
-- subcommand that needs no name
abbrev pub NamesOnly : Text → Text → List Text → Type 0
NamesOnly unnamed asked (name ∷ subcommand ∷ more) =
    (subcommand ≡ asked) ⊎ ((subcommand ≡ hyphen ∷ hyphen ∷ []) × (more ≡ []) × (asked ≡ unnamed))
NamesOnly unnamed asked _ = asked ≡ unnamed

-- ---- the values

-- a text that isn't empty and doesn't begin with a hyphen
abbrev pub IsPlainText : Text → Type 0
IsPlainText [] = ⊥
IsPlainText (first ∷ rest) = first ≢ hyphen

-- the value is plain, and passes the option's test
abbrev pub IsValueFor : Argument → Text → Type 0
IsValueFor nothing v = Unit {0}
IsValueFor (value test default) v =
    IsPlainText v × (accepts false (unwrap_or test String) v ≡ true)

-- each given value is plain, and passes its option's test
abbrev pub AreValues : List NamedOption → List GivenOption → Type 0
AreValues options [] = Unit {0}
AreValues options (g ∷ rest) =
    IfSome (option_named options g.name) (λ o. IfSome g.value (IsValueFor o.argument))
    × AreValues options rest

-- the value of a given option: `true` if it takes no value
abbrev pub given_value : GivenOption → Text
given_value g = unwrap_or g.value (codes "true")

-- the value of an option that isn't given, if there is one
abbrev pub default_of : Argument → Option Text
default_of nothing = Some (codes "false")
default_of (value test default) = default

-- the value of the option of this name: the given one, otherwise the default
abbrev pub value_of : List NamedOption → List GivenOption → Text → Option Text
value_of options given name = option_or (option_map given_value (given_named given name))
    (option_and_then (λ o. default_of o.argument) (option_named options name))
