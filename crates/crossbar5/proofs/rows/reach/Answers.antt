use Rattle.std.proofs.Common.{sym, ◌∙◌, ap, drop, take, length, arith}
use Rattle.crossbar5.proofs.RunRows.{all_left, first_refused, later_seen, own_refused, second_refused, under}
use Rattle.crossbar5.proofs.rows.reach.Goals as goal

pub returns-in-Some-clause-reached : goal.returns-in-Some-clause-reached
returns-in-Some-clause-reached g c =
    first_refused c.args.plan.now c.args.kinds.now c.args.traffic.now.rows.items c.args.traffic.now.fault c.args.unobserved c.in_ok-office.office
    c.split_at.result.0.now c.split_at.result.1.now
    c.in_ok-office.ensures (c.split_at.ensures.front ∙ ap (take c.args.unobserved) c.deref.ensures.value)
    (c.split_at.ensures.back ∙ ap (drop c.args.unobserved) c.deref.ensures.value) c.in_ok-fault.field-0 c.do_rows.new.office c.in_ok-fault.ensures.reached
    c.in-Some.fault c.in-Some.is

pub returns-in-Some-2-clause-reached : goal.returns-in-Some-2-clause-reached
returns-in-Some-2-clause-reached g c =
    second_refused c.args.plan.now c.args.kinds.now c.args.traffic.now.rows.items c.args.traffic.now.fault c.args.unobserved c.in_ok-office.office
    c.split_at.result.0.now c.split_at.result.1.now
    c.in_ok-office.ensures (c.split_at.ensures.front ∙ ap (take c.args.unobserved) c.deref.ensures.value)
    (c.split_at.ensures.back ∙ ap (drop c.args.unobserved) c.deref.ensures.value) c.in_ok-fault.field-0 c.do_rows.new.office c.in_ok-fault.ensures.reached
    c.in_default.is (c.in_ok-fault.ensures.done c.in_default.is) c.split_at.ensures.front_len c.in_ok-fault-2.field-0 c.do_rows-2.new.office
    c.in_ok-fault-2.ensures.reached c.in-Some-2.fault c.in-Some-2.is

pub returns-in-Some-refusal-clause-reached : goal.returns-in-Some-refusal-clause-reached
returns-in-Some-refusal-clause-reached g c =
    let size = ap length c.deref.ensures.value in
    own_refused c.args.plan.now c.args.kinds.now c.args.traffic.now.rows.items c.args.traffic.now.fault c.args.unobserved c.in_ok-office.office
    c.split_at.result.0.now c.split_at.result.1.now
    c.in_ok-office.ensures (c.split_at.ensures.front ∙ ap (take c.args.unobserved) c.deref.ensures.value)
    (c.split_at.ensures.back ∙ ap (drop c.args.unobserved) c.deref.ensures.value) c.in_ok-fault.field-0 c.do_rows.new.office c.in_ok-fault.ensures.reached
    c.in_default.is (c.in_ok-fault.ensures.done c.in_default.is) c.split_at.ensures.front_len c.in_ok-fault-2.field-0 c.do_rows-2.new.office
    c.in_ok-fault-2.ensures.reached c.in_default-2.is _ (omega (arith, size, c.split_at.ensures.back_len, c.deref.ensures.len))
    c.in-Some-refusal.fault (sym c.refusal.ensures ∙ c.in-Some-refusal.is)

pub returns-clause-reached : goal.returns-clause-reached
returns-clause-reached g c =
    let size = ap length c.deref.ensures.value in
    all_left c.args.plan.now c.args.kinds.now c.args.traffic.now.rows.items c.args.traffic.now.fault c.args.unobserved c.in_ok-office.office
    c.split_at.result.0.now c.split_at.result.1.now
    c.in_ok-office.ensures (c.split_at.ensures.front ∙ ap (take c.args.unobserved) c.deref.ensures.value)
    (c.split_at.ensures.back ∙ ap (drop c.args.unobserved) c.deref.ensures.value) c.in_ok-fault.field-0 c.do_rows.new.office c.in_ok-fault.ensures.reached
    c.in_default.is (c.in_ok-fault.ensures.done c.in_default.is) c.split_at.ensures.front_len c.in_ok-fault-2.field-0 c.do_rows-2.new.office
    c.in_ok-fault-2.ensures.reached c.in_default-2.is _ (omega (arith, size, c.split_at.ensures.back_len, c.deref.ensures.len))
    (sym c.refusal.ensures ∙ c.in-None.is)

pub returns-clause-plan : goal.returns-clause-plan
returns-clause-plan g c =
    under c.args.plan.now c.args.kinds.now c.args.traffic.now.rows.items c.args.traffic.now.fault c.args.unobserved c.in_ok-office.office
    c.split_at.result.0.now c.split_at.result.1.now
    c.in_ok-office.ensures (c.split_at.ensures.front ∙ ap (take c.args.unobserved) c.deref.ensures.value)
    (c.split_at.ensures.back ∙ ap (drop c.args.unobserved) c.deref.ensures.value) c.in_ok-fault.field-0 c.do_rows.new.office c.in_ok-fault.ensures.reached
    c.in_default.is (c.in_ok-fault.ensures.done c.in_default.is) c.split_at.ensures.front_len c.in_ok-fault-2.field-0 c.do_rows-2.new.office
    c.in_ok-fault-2.ensures.reached (c.in_ok-fault-2.ensures.done c.in_default-2.is)

pub returns-clause-observed : goal.returns-clause-observed
returns-clause-observed g c =
    later_seen c.args.plan.now c.args.kinds.now c.args.traffic.now.rows.items c.args.traffic.now.fault c.args.unobserved c.in_ok-office.office
    c.split_at.result.0.now c.split_at.result.1.now
    c.in_ok-office.ensures (c.split_at.ensures.front ∙ ap (take c.args.unobserved) c.deref.ensures.value)
    (c.split_at.ensures.back ∙ ap (drop c.args.unobserved) c.deref.ensures.value) c.in_ok-fault.field-0 c.do_rows.new.office c.in_ok-fault.ensures.reached
    c.in_default.is (c.in_ok-fault.ensures.done c.in_default.is) c.split_at.ensures.front_len c.in_ok-fault-2.field-0 c.do_rows-2.new.office
    c.in_ok-fault-2.ensures.reached g.O.Observer.Describes _ _ (c.in_ok-fault-2.ensures.observed c.in_default-2.is)
