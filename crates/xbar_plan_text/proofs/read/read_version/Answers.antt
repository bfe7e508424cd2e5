use Rattle.std.proofs.Common.{inr, refl, ap, None, option_and_then}
use Rattle.{toml.specs.View.table_view, xbar_plan_text.specs.Refusal.{missing_list, malformed_of_values}}
use Rattle.xbar_plan_text.proofs.Stages.{version_refused, version_read, none_missing, reading}
use Rattle.xbar_plan_text.proofs.read.read_version.Goals as goal

pub returns-in-Err : goal.returns-in-Err
returns-in-Err c =
    record { fault = inr (version_refused (table_view c.args.document.now) c.args.version c.in-Err.ensures.0); place = c.in-Err.ensures.1 }

pub returns-in-Ok : goal.returns-in-Ok
returns-in-Ok c =
    none_missing _ (missing_list (table_view c.args.document.now)) _ c.read_values.result
    (reading _ _ None None _ _ c.read_values.result (version_read (table_view c.args.document.now) c.args.version _ c.in-Ok.ensures) refl
    (ap (option_and_then (malformed_of_values c.args.version)) c.in-Ok.ensures) c.read_values.ensures)
