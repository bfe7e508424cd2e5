use Rattle.std.proofs.Common.{◌≡◌, ◌∙◌, rules, string_bytes}
use Rattle.crossbar5.proofs.Audits.{found_legal}
use Rattle.crossbar5.proofs.audit.audit_text.Goals as goal

pub returns : goal.returns
returns c =
    let found = c.in_ok-finding.ensures in
    let bytes : c.into_bytes.result.items ≡ string_bytes c.in_ok-text.field-0 = search rules in
    record {
      finding = c.in_ok-finding.finding;
      found = found.found;
      only = found.only;
      legal =
          λ list counts report is legal right. found_legal c.args.plan.now list counts c.in_ok-finding.finding legal right (found.only list counts report is);
      text_is = bytes ∙ c.in_ok-text.ensures;
      status_is = c.status.ensures;
    }
