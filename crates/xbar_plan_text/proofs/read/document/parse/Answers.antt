use Rattle.std.proofs.Common.{◌≡◌, false, true, sym, ◌∙◌, ap, is_some}
use Rattle.xbar_plan_text.proofs.Documents.{document-some, document-none}
use Rattle.xbar_plan_text.proofs.read.document.parse.Goals as goal

pub returns-in-Ok : goal.returns-in-Ok
returns-in-Ok c = document-some c.args.bytes.now _ (c.in-Ok.ensures.ok).0 (c.in-Ok.ensures.ok).1

pub returns-in-Some : goal.returns-in-Some
returns-in-Some c =
    document-none c.args.bytes.now
    (c.in-Err.ensures.refused (λ memory. let no : true ≡ false = sym (ap is_some c.in-Some.is) ∙ c.span.ensures.none.1 memory in cc))
