use Rattle.std.proofs.Common.{◌≡◌}
use Rattle.xbar_report.proofs.FieldsRead.{all_read, job_of, numbers_of}
use Rattle.xbar_report.proofs.fields.record_of.Goals as goal

pub returns-in_err-turn-clause-reads : goal.returns-in_err-turn-clause-reads
returns-in_err-turn-clause-reads c r range e = absurd (numbers_of r range (λ _ _ _ _. ⊥) _ e c.in_err-turn.ensures)

pub returns-in_err-kind-clause-reads : goal.returns-in_err-kind-clause-reads
returns-in_err-kind-clause-reads c r range e =
    let at =
    numbers_of r range (λ one two three more. c.in_ok-turn.rest.now ≡ more) _ e
    (λ one two three more a b d is. (c.in_ok-turn.ensures one two three more a b d is).3) in
    absurd (job_of r range (λ _ _ _ _. ⊥) _ at c.in_err-kind.ensures)

pub returns-in_err-number-clause-reads : goal.returns-in_err-number-clause-reads
returns-in_err-number-clause-reads c r range e =
    let at = all_read r range _ _ _ _ _ _ _ _ _ e c.in_ok-turn.ensures c.in_ok-kind.ensures in
    let read = c.in_err-number.ensures r.turn range.turn at.0 in
    cc

pub returns-in_err-number_u32-clause-reads : goal.returns-in_err-number_u32-clause-reads
returns-in_err-number_u32-clause-reads c r range e =
    let at = all_read r range _ _ _ _ _ _ _ _ _ e c.in_ok-turn.ensures c.in_ok-kind.ensures in
    let read = c.in_err-number_u32.ensures r.marker range.marker at.2 in
    cc

pub returns-in_err-number_u32-2-clause-reads : goal.returns-in_err-number_u32-2-clause-reads
returns-in_err-number_u32-2-clause-reads c r range e =
    let at = all_read r range _ _ _ _ _ _ _ _ _ e c.in_ok-turn.ensures c.in_ok-kind.ensures in
    let read = c.in_err-number_u32-2.ensures r.job_no range.job_no at.1 in
    cc

pub returns-in_err-job_of-clause-reads : goal.returns-in_err-job_of-clause-reads
returns-in_err-job_of-clause-reads c r range e =
    let at = all_read r range _ _ _ _ _ _ _ _ _ e c.in_ok-turn.ensures c.in_ok-kind.ensures in
    let read = c.in_err-job_of.ensures r.job range.job at.3 at.4 at.5 in
    cc

pub returns-in_err-end_of-clause-reads : goal.returns-in_err-end_of-clause-reads
returns-in_err-end_of-clause-reads c r range e =
    let at = all_read r range _ _ _ _ _ _ _ _ _ e c.in_ok-turn.ensures c.in_ok-kind.ensures in
    let read = c.in_err-end_of.ensures r.reply.end range.end at.6 in
    cc

pub returns-clause-reads : goal.returns-clause-reads
returns-clause-reads c r range e =
    let at = all_read r range _ _ _ _ _ _ _ _ _ e c.in_ok-turn.ensures c.in_ok-kind.ensures in
    let turn = c.in_ok-number.ensures r.turn range.turn at.0 in
    let marker = c.in_ok-number_u32.ensures r.marker range.marker at.2 in
    let job_no = c.in_ok-number_u32-2.ensures r.job_no range.job_no at.1 in
    let job = c.in_ok-job_of.ensures r.job range.job at.3 at.4 at.5 in
    let end = c.in_ok-end_of.ensures r.reply.end range.end at.6 in
    cc
