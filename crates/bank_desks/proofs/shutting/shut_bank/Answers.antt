use Rattle.std.proofs.Common.{map}
use Rattle.{bank.specs.System.bank, bank_desks.{specs.Ended.HasEnded, proofs.Ends.{has_ended, if_ok}}, workers.specs.Workers.{HaveShut, records}}
use Rattle.bank_desks.proofs.shutting.shut_bank.Goals as goal

pub returns-clause-ended : goal.returns-clause-ended
returns-clause-ended c =
    let opening = c.args.opening in
    let desks = map (λ shift. shift.desk) c.args.shifts.items in
    let logs = map (λ shift. records shift.log.items) c.args.shifts.items in
    if_ok (λ words. HaveShut (bank opening) desks logs words.items) (λ words. HasEnded opening logs words.items) c.shut_if_idle.result
    (λ words shut. has_ended opening desks logs words.items (c.shown_words_have_the_sum.ensures opening) c.requires.logs.count shut)
    c.shut_if_idle.ensures.shut
