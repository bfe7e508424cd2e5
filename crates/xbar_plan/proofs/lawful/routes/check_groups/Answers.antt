use Rattle.std.proofs.Common.{Bool, inr, refl, sym, ◌∙◌, ap, length, nat_lt}
use Rattle.{std.{specs.List.list_all, proofs.lemmas.List.Folds.list_all_at}, xbar_equip.proofs.Lists.all_more, xbar_plan.specs.Tables.Route}
use Rattle.xbar_plan.proofs.Failing.{none_fails, one_fails}
use Rattle.xbar_plan.proofs.lawful.routes.check_groups.Goals as goal

pub returns-in-Some : goal.returns-in-Some
returns-in-Some c =
    let known : Route → Bool = λ route. list_all (λ group. nat_lt group (length c.args.tables.now.groups.now)) route.groups in
    let fails = one_fails (λ group. nat_lt group (length c.args.tables.now.groups.now)) c.route-item.result.groups _ (sym c.first_unknown.ensures ∙ c.in-Some.is) in
    (tt, inr (list_all_at known c.args.tables.now.routes.now c.loop-item.item _ c.loop-item-test.true (ap known (sym c.route-item.is) ∙ fails), refl))

pub loop-item-preserved : goal.loop-item-preserved
loop-item-preserved c =
    let known : Route → Bool = λ route. list_all (λ group. nat_lt group (length c.args.tables.now.groups.now)) route.groups in
    all_more known c.args.tables.now.routes.now c.loop-item.item c.route-item.result c.loop-item-test.true c.route-item.is
    (none_fails (λ group. nat_lt group (length c.args.tables.now.groups.now)) c.route-item.result.groups (sym c.first_unknown.ensures ∙ c.in_default.is))
    c.loop-item.invariant
