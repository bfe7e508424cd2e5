use Rattle.xbar_walk.proofs.TellingRuns.{run_detail, run_items, run_json, run_number, run_office, run_text, steps_are_run}
use Rattle.xbar_walk.proofs.laws.each_step_has_its_line.Goals as goal

pub returns : goal.returns
returns c = record { office = run_office; items = run_items; text = run_text; json = run_json; number = run_number; detail = run_detail; one = steps_are_run }
