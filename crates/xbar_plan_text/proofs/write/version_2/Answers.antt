use Rattle.std.proofs.Common.{◌≡◌, ◌≤◌, ℕ, Vec, Global, string_bytes, ◌∙◌, ap, Some, IsUtf8}
use Rattle.{toml.specs.{Data.{Members, members_depth}, Parse.parse_document, View.table_view}, xbar_plan.specs.TableSlices.tables_of}
use Rattle.xbar_plan_text.specs.Written.{document_in_version_2}
use Rattle.xbar_plan_text.proofs.{WrittenPlan.{bytes-back, version-back}, WrittenText.{bytes_are_text, document_is_shallow}}
use Rattle.xbar_plan_text.proofs.write.version_2.Goals as goal

pub returns-in-Ok : goal.returns-in-Ok
returns-in-Ok c =
    let plan = tables_of c.args.tables.now in
    let bytes : c.into_bytes.result.items ≡ string_bytes c.in-Ok.text = ap (λ (v : Vec ℕ Global). v.items) c.into_bytes.ensures.value in
    let shallow : members_depth (table_view c.in_ok-document.document) ≤ 80 = rw c.in_ok-document.ensures (document_is_shallow plan) in
    let parsed : parse_document c.into_bytes.result.items ≡ Some (document_in_version_2 plan) =
    ap parse_document bytes ∙ c.in-Ok.ensures.reads_back shallow ∙ ap (λ (ms : Members). Some ms) c.in_ok-document.ensures in
    let text : IsUtf8 c.into_bytes.result.items = rw bytes (bytes_are_text c.in-Ok.text) in
    record {
      version = version-back c.into_bytes.result.items plan text parsed;
      tables = bytes-back c.into_bytes.result.items plan c.requires text parsed;
    }
