-- Subcommands that are added to a program, one after the other.
use Rattle.std.proofs.Common.{◌≡◌, ◌∙◌, ap, sym, true, false, List, [], ◌∷◌, map, All}
use Rattle.{std.proofs.lemmas.List.Elements.{All-head, All-tail}, clap.specs.{Simple.{App, Shape, with_subcommand}, Words.{AddsInTurn, AddsSubcommand, app_of}}}
use Rattle.clap.specs.declared.builder.command.Command.{Command, TheViews.out-Command}
use Rattle.crossbar5_command.specs.Program.{program, program_of, shape_for, subcommands}

-- what a command alone is, without its subcommands
abbrev pub shape_alone : Command → Shape
shape_alone one = (app_of one).top

-- its arguments are its own
abbrev pub IsLocal : Command → Type 0
IsLocal one = (out-Command one).has_globals ≡ false

-- ---- a program with all of them

abbrev pub with_all : App → List Shape → App
with_all app [] = app
with_all app (shape ∷ rest) = with_all (with_subcommand app shape) rest

pub all_added : (old new : Command) (all : List Command) → All IsLocal all → AddsInTurn AddsSubcommand old all new
    → app_of new ≡ with_all (app_of old) (map shape_alone all)
all_added old new [] local same = sym (ap app_of same)
all_added old new (one ∷ rest) local (next, step, more) =
    all_added next new rest (All-tail IsLocal one rest local) more
    ∙ ap (λ app. with_all app (map shape_alone rest)) (step.shape (All-head IsLocal one rest local))

-- the program that they are added to
abbrev pub bare : App
bare = record (program_of []) { top = record (program_of []).top { is_leaf = true } }

pub program_made : (old new : Command) (all : List Command) → app_of old ≡ bare → All IsLocal all
    → map shape_alone all ≡ map shape_for subcommands → AddsInTurn AddsSubcommand old all new → app_of new ≡ program
program_made old new all is_bare local shapes added =
    all_added old new all local added ∙ ap (λ (app : App). with_all app (map shape_alone all)) is_bare ∙ ap (with_all bare) shapes
