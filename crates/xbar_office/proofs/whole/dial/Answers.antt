use Rattle.std.proofs.Common.{◌≡◌, ◌<◌, List, length, ◌∙◌, ap, arith, rules}
use Rattle.{xbar_equip.specs.declared.path.Path.Path, xbar_office.{specs.Dial.dial, proofs.{AddedByEnd.adds-by_reply, DialJobs.dial-adds}}}
use Rattle.xbar_office.proofs.whole.dial.Goals as goal

pub returns-in_err-add-clause-memory : goal.returns-in_err-add-clause-memory
returns-in_err-add-clause-memory c =
    let plan = c.args.plan.now in
    let paths = c.args.paths.now.items in
    let line = c.args.line in
    let reply : c.dial-reply.result ≡ (dial plan paths line).reply =
    c.dial-reply.ensures ∙ ap (λ (p : List Path). (dial plan p line).reply) c.deref.ensures.value in
    let is =
    adds-by_reply plan paths (dial plan paths line) (dial-adds plan paths line c.every_plan_is_lawful.ensures c.line_is_in_range.ensures) c.dial-reply.result
    c.adds.result reply c.adds.ensures in
    let grows : length c.args.paths.now.items < length (dial c.args.plan.now c.args.paths.now.items c.args.line).paths =
    omega (arith, is.1, c.in_err-add.ensures.full) in
    search rules

pub returns-clause-ok : goal.returns-clause-ok
returns-clause-ok c =
    let plan = c.args.plan.now in
    let paths = c.args.paths.now.items in
    let line = c.args.line in
    let reply : c.dial-reply.result ≡ (dial plan paths line).reply =
    c.dial-reply.ensures ∙ ap (λ (p : List Path). (dial plan p line).reply) c.deref.ensures.value in
    let is =
    adds-by_reply plan paths (dial plan paths line) (dial-adds plan paths line c.every_plan_is_lawful.ensures c.line_is_in_range.ensures) c.dial-reply.result
    c.adds.result reply c.adds.ensures in
    c.in_ok-add.ensures.ok ∙ is.0
