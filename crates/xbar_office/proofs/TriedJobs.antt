-- a job that made trials leaves a lawful set lawful, and makes it longer by the paths that were
-- chosen
use Rattle.std.proofs.Common.{◌≡◌, ℕ, ◌+◌, List, length, arith, Option, Some, None}
use Rattle.{xbar_equip.specs.declared.path.Path.Path, xbar_plan.specs.{Tables.Tables, Lawful.IsLawful}}
use Rattle.xbar_office.specs.{Done.{with_added, chosen_paths}, LawfulSet.IsLawfulSet, AddedPaths.added_count, declared.trial.Choice.Choice}
use Rattle.xbar_office.proofs.{GoodTrials.GoodChoice, TakenMembers.{length-take, lawful-take}}

pub lawful-tried : (plan : Tables) (paths : List Path) (group : ℕ) (choice : Option Choice) → GoodChoice plan paths group choice → IsLawful plan
    → IsLawfulSet plan paths → IsLawfulSet plan (with_added paths (chosen_paths choice))
lawful-tried plan paths group None good laws lawful = lawful
lawful-tried plan paths group (Some choice) good laws lawful = lawful-take plan paths group choice.index choice.paths good laws lawful

pub length-tried : (plan : Tables) (paths : List Path) (group : ℕ) (choice : Option Choice) → GoodChoice plan paths group choice
    → length (with_added paths (chosen_paths choice)) ≡ length paths + added_count (chosen_paths choice)
length-tried plan paths group None good = omega arith
length-tried plan paths group (Some choice) good = length-take plan paths group choice.index choice.paths good
