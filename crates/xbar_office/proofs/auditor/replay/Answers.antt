use Rattle.std.proofs.Common.{rules, false, List, length, sym, ◌∙◌, ap, arith, ◌<◌, IsTrue}
use Rattle.{xbar_equip.specs.declared.path.Path.Path, xbar_office.specs.{State.State, Whole.whole}}
use Rattle.xbar_office.proofs.AuditedRecords.{jobs-more, replies-more, after-more, wrong-reply}
use Rattle.xbar_office.proofs.auditor.replay.Goals as goal

pub returns-then-not-is_same : goal.returns-then-not-is_same
returns-then-not-is_same c =
    let record_here = c.record-item.result in
    wrong-reply c.args.plan.now c.args.records.now c.loop-record.record-index record_here c.in_ok-reply.reply (omega arith) c.record-item.is c.requires
    c.loop-record.invariant.replies
    (c.in_ok-reply.ensures.reply ∙ ap (λ (o : State). (whole o.plan o.paths record_here.job).reply) c.loop-record.invariant.office)
    (λ same. let told : IsTrue false = c.if-not-is_same.ensures.1 same in search rules)

pub loop-record-preserved : goal.loop-record-preserved
loop-record-preserved c =
    let plan = c.args.plan.now in
    let records = c.args.records.now in
    let n = c.loop-record.record-index in
    let r = c.record-item.result in
    let below : n < length records = omega arith in
    let inv = c.loop-record.invariant in
    record {
      office =
          c.in_ok-reply.ensures.ok
          ∙ ap (λ (o : State). record { plan = o.plan; paths = (whole o.plan o.paths r.job).paths }) inv.office
          ∙ ap (λ (p : List Path). record { plan = plan; paths = p }) (sym (after-more records n r below c.record-item.is plan));
      jobs = jobs-more records n r below c.record-item.is c.job_is_in_range.ensures inv.jobs;
      replies =
          replies-more records n r below c.record-item.is plan
          (sym (c.if-not-is_same.ensures.0 (search rules)) ∙ c.in_ok-reply.ensures.reply ∙ ap (λ (o : State). (whole o.plan o.paths r.job).reply) inv.office)
          inv.replies;
    }
