use Rattle.{slot_desks.proofs.OwnSlots.{takes_one, worked_own}, slots.specs.{Few.list_of, declared.job.Job.TheVariants.Take}}
use Rattle.slot_desks.proofs.driving.take_and_give.Goals as goal

pub returns-clause-own : goal.returns-clause-own
returns-clause-own c =
    worked_own list_of c.work.result c.loop-round.shift.log.items c.work.new.shift.log.items c.args.rounds Take takes_one c.loop-round.invariant.own
    c.work.ensures.done c.work.ensures.none
