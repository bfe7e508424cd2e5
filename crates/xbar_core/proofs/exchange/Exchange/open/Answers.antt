use Rattle.std.proofs.Common.{◌≡◌, ◌∙◌, ◌≤◌, List, ap, arith, length, subst, sym}
use Rattle.{xbar_moves.specs.{Exchange.{Exchange, fresh_exchange}, declared.kinds.Kind.Kind}, xbar_core.specs.Standing.{HasRoom, IsExchange}}
use Rattle.xbar_core.proofs.Kept.{kept_opened, none_waits}
use Rattle.xbar_core.proofs.exchange.Exchange.open.Goals as goal

pub invariant_of-result : goal.invariant_of-result
invariant_of-result c =
    let plan = c.args.plan.now in
    let words = c.in_ok-vec.ensures.items_if_clones_equal (λ y e. e) in
    let made : c.in_ok-markers.markers.items ≡ (fresh_exchange c.args.kinds.now).markers =
    c.in_ok-markers.ensures ∙ ap (λ (kinds : List Kind). (fresh_exchange kinds).markers) c.as_slice.ensures.same in
    let opens : record { words = c.in_ok-vec.field-0.items; markers = c.in_ok-markers.markers.items; records = c.new.result.items }
    ≡ fresh_exchange c.args.kinds.now =
    λ i. record { words = words i; markers = made i; records = c.new.ensures.items i } in
    let few = subst (λ (kinds : List Kind). length kinds ≤ 48) c.as_slice.ensures.same c.as_slice.ensures.count.1 in
    let room : HasRoom (fresh_exchange c.args.kinds.now) c.new.result.cap = omega (arith, none_waits c.args.kinds.now) in (
      subst (IsExchange plan) (sym opens) (kept_opened plan c.args.kinds.now c.every_plan_is_lawful.ensures few),
      subst (λ (e : Exchange). HasRoom e c.new.result.cap) (sym opens) room,
      c.every_plan_is_lawful.ensures,
    )

pub returns : goal.returns
returns c =
    let words = c.in_ok-vec.ensures.items_if_clones_equal (λ y e. e) in
    let made : c.in_ok-markers.markers.items ≡ (fresh_exchange c.args.kinds.now).markers =
    c.in_ok-markers.ensures ∙ ap (λ (kinds : List Kind). (fresh_exchange kinds).markers) c.as_slice.ensures.same in
    λ i. record { plan = c.args.plan.now; exchange = record { words = words i; markers = made i; records = c.new.ensures.items i } }
