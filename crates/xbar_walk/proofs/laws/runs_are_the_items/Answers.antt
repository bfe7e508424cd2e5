use Rattle.xbar_walk.proofs.Joining.{all_runs, each_alone, joined_text, runs_are_items}
use Rattle.xbar_walk.proofs.laws.runs_are_the_items.Goals as goal

pub returns : goal.returns
returns c = record { all = runs_are_items; runs = all_runs; row = joined_text; each = each_alone }
