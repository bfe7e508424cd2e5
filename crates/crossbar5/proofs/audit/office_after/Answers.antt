use Rattle.std.proofs.Common.{◌<◌, ◌∙◌, List, length, sym, ap, arith}
use Rattle.{xbar_equip.specs.declared.path.Path.Path, xbar_office.{specs.{State.State, Whole.whole}, proofs.AuditedRecords.after-more}}
use Rattle.crossbar5.proofs.audit.office_after.Goals as goal

pub loop-record-preserved : goal.loop-record-preserved
loop-record-preserved c =
    let plan = c.args.plan.now in
    let records = c.args.records.now in
    let n = c.loop-record.record-index in
    let r = c.record-item.result in
    let below : n < length records = omega arith in
    c.in_ok-whole.ensures.ok
    ∙ ap (λ (o : State). record { plan = o.plan; paths = (whole o.plan o.paths r.job).paths }) c.loop-record.invariant
    ∙ ap (λ (p : List Path). record { plan = plan; paths = p }) (sym (after-more records n r below c.record-item.is plan))
