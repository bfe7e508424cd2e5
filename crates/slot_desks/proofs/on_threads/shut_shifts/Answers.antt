use Rattle.std.proofs.Common.{ℕ, map, sym, subst}
use Rattle.{desks.specs.Met.IsEnded, slots.specs.System.slots, workers.specs.Workers.{HaveShut, records}, slot_desks.specs.Ended.HaveEnded}
use Rattle.slot_desks.proofs.OwnSlots.{if_ok}
use Rattle.slot_desks.proofs.on_threads.shut_shifts.Goals as goal

pub returns-clause-ended : goal.returns-clause-ended
returns-clause-ended c =
    let shifts = c.args.shifts.items in
    let logs = map (λ shift. records shift.log.items) c.args.shifts.items in
    let once = c.no_slot_is_taken_twice.ensures in
    if_ok (λ words. HaveShut slots (map (λ shift. shift.desk) shifts) logs words.items) (λ words. HaveEnded logs words.items) c.shut_if_idle.result
    (λ words shut.
    let order = shut.closed.order in
    let legal = shut.closed.ended.legal in
    record {
      order = order;
      ended = subst (λ (n : ℕ). IsEnded slots n words.items order) (sym c.requires.logs.count) shut.closed.ended;
      made_up = shut.made_up;
      taken_once = once.once logs order legal shut.made_up;
      had_once = once.had logs order legal shut.made_up;
    })
    c.shut_if_idle.ensures.shut
