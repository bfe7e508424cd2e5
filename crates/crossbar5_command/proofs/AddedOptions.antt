-- Arguments that are added to a command, one after the other.
use Rattle.std.proofs.Common.{◌≡◌, ◌∙◌, ◌||◌, ap, sym, append_assoc, append-nil, false, List, [], ◌∷◌, ◌++◌, map, All}
use Rattle.{std.proofs.lemmas.{List.Elements.{All-head, All-tail}, Simd.map-map}, clap.specs.{Built.AddsArg, Simple.{new_app, new_shape}, Words.AddsInTurn}}
use Rattle.clap.specs.{Words.{App, Rule, app_of, rule_of, with_rule}, declared.builder.{arg.Arg.Arg, command.Command.{Command, TheViews.out-Command}}}
use Rattle.crossbar5_command.specs.{Program.{rule_for, shape_for}, Table.{named_option, named_subcommand}, declared.subcommands.Subcommand.{Subcommand as Row}}

-- it is an argument of its command alone
abbrev pub IsOwn : Arg → Type 0
IsOwn arg = arg.global ≡ false

abbrev pub with_rules : App → List Rule → App
with_rules app [] = app
with_rules app (rule ∷ rest) = with_rules (with_rule app rule) rest

pub rules_added : (old new : Command) (all : List Arg) → All IsOwn all → AddsInTurn AddsArg old all new
    → app_of new ≡ with_rules (app_of old) (map rule_of all)
rules_added old new [] own same = sym (ap app_of same)
rules_added old new (arg ∷ rest) own (next, step, more) =
    rules_added next new rest (All-tail IsOwn arg rest own) more
    ∙ ap (λ app. with_rules app (map rule_of rest)) (step.shape (All-head IsOwn arg rest own))

pub stays_local : (old new : Command) (all : List Arg) → All IsOwn all → (out-Command old).has_globals ≡ false
    → AddsInTurn AddsArg old all new → (out-Command new).has_globals ≡ false
stays_local old new [] own local same = rw (sym same) local
stays_local old new (arg ∷ rest) own local (next, step, more) =
    stays_local next new rest (All-tail IsOwn arg rest own)
    (step.globals ∙ ap (λ has. has || arg.global) local ∙ All-head IsOwn arg rest own) more

-- the rules come after those that the command has
rules_top : (app : App) (rules : List Rule) → (with_rules app rules).top ≡ record app.top { rules = app.top.rules ++ rules }
rules_top app [] = ap (λ (all : List Rule). record app.top { rules = all }) (sym (append-nil app.top.rules))
rules_top app (rule ∷ rest) =
    rules_top (with_rule app rule) rest
    ∙ ap (λ (all : List Rule). record app.top { rules = all }) (append_assoc app.top.rules (rule ∷ []) rest)

-- a command with the name and the options of a row
pub command_made : (row : Row) (old new : Command) (all : List Arg) → app_of old ≡ new_app row.name.now → All IsOwn all
    → map rule_of all ≡ map (λ option. rule_for (named_option option)) row.options.now → AddsInTurn AddsArg old all new
    → (app_of new).top ≡ shape_for (named_subcommand row)
command_made row old new all is_new own rules added =
    ap (λ (app : App). app.top) (rules_added old new all own added)
    ∙ ap (λ app. (with_rules app (map rule_of all)).top) is_new
    ∙ rules_top (new_app row.name.now) (map rule_of all)
    ∙ ap (λ (all_rules : List Rule). record (new_shape row.name.now) { rules = all_rules })
    (rules ∙ sym (map-map rule_for named_option row.options.now))
