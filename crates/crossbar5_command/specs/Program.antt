-- The program with its subcommands and options, and their definition for clap.
use Rattle.std.specs.Prelude.{true, false, ℕ, List, [], ◌∷◌, map, Option, Some, None, codes}
use Rattle.clap.specs.Simple.{new_shape}
use Rattle.clap.specs.Words.{App, Rule, Shape, Text, new_rule}
use Rattle.clap.specs.declared.builder.action.ArgAction.{ArgAction}
use Rattle.clap.specs.declared.builder.action.ArgAction.TheVariants.{SetTrue}
use Rattle.clap.specs.declared.builder.value_parser.ValueParser.{ValueParser}
use Rattle.clap.specs.declared.builder.value_parser.ValueParser.TheVariants.{Unsigned}
use Rattle.crossbar5_command.specs.Subcommand.{Argument, NamedOption, Subcommand, nothing, value}

-- ---- the subcommands

-- `--plan FILE`
abbrev pub plan : NamedOption
plan = record { name = codes "plan"; argument = value None None }

-- the default kinds of the markers: two markers for all jobs
abbrev pub default_kinds : Text
default_kinds = codes "XX"

-- `--markers KINDS`
abbrev pub markers : NamedOption
markers = record { name = codes "markers"; argument = value None (Some default_kinds) }

abbrev pub replay : Subcommand
replay = record { name = codes "replay"; options = plan ∷ markers ∷ [] }

-- `--short`
abbrev pub in_short : NamedOption
in_short = record { name = codes "short"; argument = nothing }

-- `--json`
abbrev pub as_json : NamedOption
as_json = record { name = codes "json"; argument = nothing }

abbrev pub walk : Subcommand
walk = record { name = codes "walk"; options = plan ∷ markers ∷ in_short ∷ as_json ∷ [] }

-- `--words`
abbrev pub in_words : NamedOption
in_words = record { name = codes "words"; argument = nothing }

-- `--svg`
abbrev pub as_svg : NamedOption
as_svg = record { name = codes "svg"; argument = nothing }

abbrev pub look : Subcommand
look = record {
  name = codes "look";
  options = plan ∷ markers ∷ in_words ∷ as_json ∷ as_svg ∷ [];
}

-- the default number of markers
abbrev pub one : Text
one = codes "1"

-- the number of markers of a kind, 1 to 47, as the other kind needs one too
abbrev pub marker_count : Text → NamedOption
marker_count name = record { name = name; argument = value (Some (Unsigned 1 47)) (Some one) }

-- `--dial N`
abbrev pub dial : NamedOption
dial = marker_count (codes "dial")

-- `--completing N`
abbrev pub completing : NamedOption
completing = marker_count (codes "completing")

abbrev pub live : Subcommand
live = record { name = codes "live"; options = plan ∷ dial ∷ completing ∷ [] }

abbrev pub audit : Subcommand
audit = record { name = codes "audit"; options = plan ∷ [] }

-- `--text`
abbrev pub as_text : NamedOption
as_text = record { name = codes "text"; argument = nothing }

abbrev pub draw : Subcommand
draw = record { name = codes "draw"; options = plan ∷ as_text ∷ [] }

abbrev pub page : Subcommand
page = record { name = codes "page"; options = plan ∷ [] }

abbrev pub subcommands : List Subcommand
subcommands = replay ∷ walk ∷ look ∷ live ∷ audit ∷ draw ∷ page ∷ []

-- the options that say in which form to print. At most one of them may be given
abbrev pub forms : List NamedOption
forms = in_short ∷ in_words ∷ as_json ∷ as_svg ∷ []

-- ---- their definition for clap

-- clap's action for an option: without a value it is a flag
abbrev pub action_for : Argument → Option ArgAction
action_for nothing = Some SetTrue
action_for (value test default) = None

-- how many values an option takes
abbrev pub value_count : Argument → ℕ
value_count nothing = 0
value_count (value test default) = 1

-- the test that a value has to pass, if there is one
abbrev pub test_for : Argument → Option ValueParser
test_for nothing = None
test_for (value test default) = test

-- the default values of an option: one, or none
abbrev pub defaults_for : Argument → List Text
defaults_for (value test (Some default)) = default ∷ []
defaults_for _ = []

-- the option, as an argument with a long name
abbrev pub rule_for : NamedOption → Rule
rule_for o = record (new_rule o.name) {
  long = Some o.name;
  action = action_for o.argument;
  value_names = value_count o.argument;
  parser = test_for o.argument;
  defaults = defaults_for o.argument;
}

-- the subcommand, with its options
abbrev pub shape_for : Subcommand → Shape
shape_for s = record (new_shape s.name) { rules = map rule_for s.options }

-- the program `crossbar5`, with a version and these subcommands
abbrev pub program_of : List Subcommand → App
program_of subs = record {
  top = record (new_shape (codes "crossbar5")) { is_leaf = false; has_version = true };
  subs = map shape_for subs;
}

abbrev pub program : App
program = program_of subcommands
