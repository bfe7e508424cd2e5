use Rattle.std.proofs.Common.{◌∙◌, rules, bytes_eq, tests}
use Rattle.{std.proofs.lemmas.Iterator.{YieldsList-from_slice, Search.find_from_yields_List}, xbar_report.specs.Parts.end_name}
use Rattle.xbar_report.proofs.fields.end_named.Goals as goal

pub returns : goal.returns
returns c =
    c.copied.ensures ∙ find_from_yields_List (λ end. bytes_eq (end_name end) c.args.name.now) _ _ c.find.result c.find.ensures.ran
    (YieldsList-from_slice c.args.ends.now c.iter.ensures.rest) (λ x b q k. search (rules, tests))
