use Rattle.slot_desks.proofs.TakenTwice.{not_had_twice, not_twice}
use Rattle.slot_desks.proofs.laws.no_slot_is_taken_twice.Goals as goal

pub returns-clause-once : goal.returns-clause-once
returns-clause-once c logs order legal made few =
    let laws = c.reports_make_up_the_order.ensures in
    not_twice logs order legal made
    (λ x t. laws.ordered tt logs order t.1 t.0 x made t.2 t.3)
    (λ x within. let e = laws.logged tt logs order x made within in (x.actor, e.0, e.1, e.2))
    few

pub returns-clause-had : goal.returns-clause-had
returns-clause-had c logs order legal made few =
    let laws = c.reports_make_up_the_order.ensures in
    not_had_twice logs order legal made
    (λ x t. laws.ordered tt logs order t.1 t.0 x made t.2 t.3)
    (λ x within. let e = laws.logged tt logs order x made within in (x.actor, e.0, e.1, e.2))
    few
