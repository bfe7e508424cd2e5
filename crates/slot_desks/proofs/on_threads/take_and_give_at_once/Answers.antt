use Rattle.std.proofs.Common.{[], map}
use Rattle.{slot_desks.{specs.Ended.{AllGiveOwn, GivesOwn}, proofs.OwnSlots.{if_ok, of_places}}, workers.specs.Workers.records}
use Rattle.slot_desks.proofs.on_threads.take_and_give_at_once.Goals as goal

pub returns-clause-own : goal.returns-clause-own
returns-clause-own g c =
    if_ok _ (λ shifts. AllGiveOwn (map (λ shift. records shift.log.items) shifts.items)) c.at_once.result
    (λ shifts each. of_places (λ shift. records shift.log.items) _ (GivesOwn []) shifts.items (λ i after ends. ends.3.1.1.1.0) each)
    c.at_once.ensures.each
