-- The forms in which a walk is printed, and an office as it stands.
use Rattle.std.specs.Prelude.{Bool, true, false, Option, None, Some, codes}
use Rattle.std.specs.Option.{option_map_or}
use Rattle.std.specs.Str.{bytes_eq}
use Rattle.clap.specs.Words.{Text}
use Rattle.crossbar5_task.specs.declared.task.LookForm.{LookForm}
use Rattle.crossbar5_task.specs.declared.task.LookForm.TheVariants as look
use Rattle.crossbar5_task.specs.declared.task.WalkForm.{WalkForm}
use Rattle.crossbar5_task.specs.declared.task.WalkForm.TheVariants as walk

-- an option that takes no value is given: clap has the value `true` for it
abbrev pub is_given : Option Text → Bool
is_given value = option_map_or (λ v. bytes_eq v (codes "true")) value false

-- the form of a walk with or without `--short` and `--json`. With both it has none
abbrev pub walk_form : Bool → Bool → Option WalkForm
walk_form false false = Some walk.Each
walk_form true false = Some walk.Short
walk_form false true = Some walk.Json
walk_form true true = None

-- the form of an office with or without `--words`, `--json` and `--svg`. With two it has none
abbrev pub look_form : Bool → Bool → Bool → Option LookForm
look_form words false false = Some look.Words
look_form false true false = Some look.Json
look_form false false true = Some look.Svg
look_form _ _ _ = None
