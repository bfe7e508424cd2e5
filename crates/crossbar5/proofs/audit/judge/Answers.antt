use Rattle.std.proofs.Common.{List, sym, subst, IfOk}
use Rattle.xbar_office.specs.{Audit.IsFaultOf, Legal.HaveTurns, declared.{audit_fault.AuditFault.AuditFault, reply.Record.Record}}
use Rattle.{xbar_report.proofs.ReadBack.no_wrong_turn, crossbar5.specs.Audit.IsFoundOf}
use Rattle.crossbar5.proofs.audit.judge.Goals as goal

pub unreachable-requires : goal.unreachable-requires
unreachable-requires c =
    no_wrong_turn c.deref.result.now c.in-Err-Turns.field-0-0 (subst (HaveTurns 0) (sym c.deref.ensures.value) c.requires)
    (subst (λ (fault : AuditFault). IsFaultOf c.args.plan.now c.deref.result.now fault) c.in-Err-Turns.field-0-is c.in-Err-Turns.ensures.fault)

pub returns-in-Err-Reply : goal.returns-in-Err-Reply
returns-in-Err-Reply c =
    subst (λ (records : List Record). IfOk c.wrong_reply.result (IsFoundOf c.args.plan.now records c.args.report.now.counts)) c.deref-in-Err-Reply.ensures.value
    (c.wrong_reply.ensures c.args.report.now.counts)
