use Rattle.std.proofs.Common.{rules, ◌≡◌, inr, refl, ap, Some, None, option_and_then}
use Rattle.{toml.specs.View.table_view, xbar_plan_text.specs.{Document.{version_of as version_of_document}, Refusal.malformed_of_version}}
use Rattle.xbar_plan_text.proofs.Stages.{document_refused, document_read, reading}
use Rattle.xbar_plan_text.proofs.read.read_document.Goals as goal

pub returns-in-None : goal.returns-in-None
returns-in-None c =
    let none : version_of_document (table_view c.args.document.now) ≡ None = search rules in
    record { fault = inr (document_refused (table_view c.args.document.now) none); place = tt }

pub returns-in-Some : goal.returns-in-Some
returns-in-Some c =
    let some : version_of_document (table_view c.args.document.now) ≡ Some c.in-Some.version = search rules in
    reading _ _ _ _ _ _ c.read_version.result (document_read (table_view c.args.document.now) _ some) refl
    (ap (option_and_then (λ version. malformed_of_version version (table_view c.args.document.now))) some) c.read_version.ensures
