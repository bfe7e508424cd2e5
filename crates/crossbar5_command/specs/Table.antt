-- The subcommands and options of the table in the code.
use Rattle.std.specs.Prelude.{map}
use Rattle.crossbar5_command.specs.Program.{as_json, as_svg, as_text, completing, dial, in_short, in_words, markers, plan}
use Rattle.crossbar5_command.specs.Subcommand.{NamedOption, Subcommand}
use Rattle.crossbar5_command.specs.declared.options.CommandOption.{CommandOption}
use Rattle.crossbar5_command.specs.declared.options.CommandOption.TheVariants as option
use Rattle.crossbar5_command.specs.declared.subcommands.Subcommand.{Subcommand as Row}

-- the option of a variant
abbrev pub named_option : CommandOption → NamedOption
named_option option.Plan = plan
named_option option.Markers = markers
named_option option.Dial = dial
named_option option.Completing = completing
named_option option.Short = in_short
named_option option.Events = as_json
named_option option.Words = in_words
named_option option.Json = as_json
named_option option.Svg = as_svg
named_option option.Text = as_text

-- the subcommand of a row
abbrev pub named_subcommand : Row → Subcommand
named_subcommand row = record { name = row.name.now; options = map named_option row.options.now }
