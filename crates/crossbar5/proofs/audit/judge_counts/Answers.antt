use Rattle.std.proofs.Common.{◌≡◌, ◌∙◌, List, length, sym, ap, arith, true≢false}
use Rattle.{xbar_equip.specs.declared.path.Path.Path, xbar_office.specs.Closed.closed, crossbar5.proofs.Audits.standing_is}
use Rattle.crossbar5.proofs.audit.judge_counts.Goals as goal

pub returns-then-not-are_right : goal.returns-then-not-are_right
returns-then-not-are_right c =
    let all = c.in_ok-crosspoints.field-0 in
    let size : c.len.result ≡ length all.items = omega (arith, c.len.ensures, all.ok.0) in
    let same =
    standing_is c.args.office.now.plan c.args.report.now.records.items c.paths.result.now (c.paths.ensures.paths ∙ c.requires.paths) c.len.result
    (size ∙ ap length c.in_ok-crosspoints.ensures.closed ∙ ap (λ (p : List Path). length (closed p)) c.requires.paths) in
    (c.requires.legal, same, λ right. true≢false (sym (c.are_right.ensures.1 right) ∙ c.if-not-are_right.true))

pub returns : goal.returns
returns c =
    let all = c.in_ok-crosspoints.field-0 in
    let size : c.len.result ≡ length all.items = omega (arith, c.len.ensures, all.ok.0) in
    let same =
    standing_is c.args.office.now.plan c.args.report.now.records.items c.paths.result.now (c.paths.ensures.paths ∙ c.requires.paths) c.len.result
    (size ∙ ap length c.in_ok-crosspoints.ensures.closed ∙ ap (λ (p : List Path). length (closed p)) c.requires.paths) in
    (c.requires.legal, omega (arith, c.len-count.ensures, c.args.report.now.records.ok.0), same, c.are_right.ensures.0 c.if-not-are_right.false)
