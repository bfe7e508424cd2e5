use Rattle.std.proofs.Common.{◌%◌, sym, subst, ◌==◌}
use Rattle.{slots.specs.Few.list_of, slot_desks.proofs.OwnSlots.{IsTaking, gave_own, takes_either}}
use Rattle.slot_desks.proofs.driving.take_and_give_once.Goals as goal

pub returns-clause-own : goal.returns-clause-own
returns-clause-own c =
    let takes = subst IsTaking (sym c.job_of_round.ensures) (takes_either (c.args.round % 2 == 0)) in
    gave_own c.args.shift.now.log.items c.work.new.shift.log.items c.give_each.new.shift.log.items c.args.round c.job_of_round.result (list_of c.in-Some.taken)
    c.give_each.result takes c.requires.own c.in-Some.ensures.done c.give_each.ensures.given
