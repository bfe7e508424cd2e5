-- a desk may go to any thread: it has a seat, an attempt, and a snapshot of its plan, which has no bytes
use denote.RattleType.{RattleType}
use denote.Param as param
use denote.Param.Send as send
use denote.Struct.Declared as declared
use Rattle.desk_attempts.proofs.speculation.Speculation.TheSendSync as attempt_sent
use Rattle.desk_attempts.specs.contracts.speculation.Speculation as attempt
use Rattle.desk_attempts.specs.contracts.jobs.Attempts as attempts
use Rattle.desk_attempts.specs.contracts.jobs.AttemptsJobs.TheImpl as jobs
use Rattle.atomic_table.below.core.specs.contracts.clone.Clone+copy.TheImpl as copies
use Rattle.desks.proofs.desk.Desk.TheSendSync as below
use Rattle.std.specs.contracts.snapshot.Snapshot as snapshot
use Rattle.xbar_moves.proofs.kinds.Kind.TheSendSync as kind_sent
use Rattle.xbar_equip.proofs.conn.Conn.TheSendSync as conn_sent
use Rattle.xbar_equip.specs.contracts.conn.Conn as conn
use Rattle.xbar_equip.specs.contracts.conn.ConnDefault.TheImpl as conn_default
use Rattle.xbar_equip.specs.contracts.conn.ConnPartialEq.TheImpl as conn_equal
use Rattle.xbar_fabric.specs.contracts.desk.Desk as desk
use Rattle.xbar_fabric.specs.contracts.desk.Desk.TheInside as inside
use Rattle.xbar_fabric.specs.contracts.office.OfficeRoom as room
use Rattle.xbar_fabric.specs.contracts.office.OfficesInRoomOfficeRoomREADINGSHELD.TheImpl as in_room
use Rattle.xbar_jobs.specs.contracts.offices.Offices as offices
use Rattle.xbar_jobs.specs.contracts.offices.OfficesOnWordsREADINGSHELD.TheImpl as on_words
use Rattle.xbar_jobs.specs.contracts.offices.OfficesScriptsREADINGSHELD.TheImpl as scripts
use Rattle.xbar_jobs.proofs.decision.Decided.TheSendSync as decided_sent
use Rattle.xbar_jobs.proofs.walk.WalkProgress.TheSendSync as progress_sent
use Rattle.xbar_jobs.specs.contracts.decision.Decided as decided
use Rattle.xbar_jobs.specs.contracts.effect.OfficeEffect as effect
use Rattle.xbar_jobs.specs.contracts.walk.WalkProgress as point
use Rattle.xbar_office.proofs.job.Job.TheSendSync as job_sent
use Rattle.xbar_office.specs.contracts.job.Job as job
use Rattle.xbar_office.specs.contracts.reply.Reply as reply
use Rattle.xbar_plan.specs.contracts.plan.Plan as plan

snapshot_send : send.IsSend (snapshot.the_row plan.the_row)
snapshot_send = record { owned = λ d vs. ((λ vss. (tt, ((λ uss. (tt, tt)), tt))), tt); leaving = λ k f vs. tt }

abbrev attempt_row : RattleType
attempt_row = attempt.the_row conn.the_row job.the_row decided.the_row point.the_row (param.number 42) (param.number 19)

attempt_send : send.IsSend attempt_row
attempt_send =
    attempt_sent.the_send conn.the_row job.the_row decided.the_row point.the_row (param.number 42) (param.number 19) conn_sent.the_send job_sent.the_send
    decided_sent.the_send progress_sent.the_send

pub desk_send : send.IsSend desk.the_row
desk_send =
    send.view_send inside.the_row _ _ _ _
    (send.recorded_send inside.the_field.row _ _ inside.the_type.to_one
    (send.struct_send (declared.shape inside.the_type) (
      below.the_send (attempts.the_row offices.the_row room.the_row (param.number 42) (param.number 19)) plan.the_row (snapshot.the_row plan.the_row) conn.the_row
          job.the_row reply.the_row effect.the_row attempt_row
          (jobs.ghosts offices.the_row room.the_row (param.number 42) (param.number 19) (snapshot.the_row plan.the_row) plan.the_row conn.the_row
          job.the_row reply.the_row effect.the_row decided.the_row point.the_row in_room.ghosts jobs.no_dict on_words.ghosts jobs.no_dict
          scripts.ghosts jobs.no_dict (copies.ghosts conn.the_row) jobs.no_dict conn_default.ghosts jobs.no_dict conn_equal.ghosts jobs.no_dict
          (copies.ghosts job.the_row) jobs.no_dict (copies.ghosts effect.the_row) jobs.no_dict jobs.no_dict jobs.no_dict jobs.no_dict jobs.no_dict)
          snapshot_send attempt_send,
      (kind_sent.the_field_send, tt),
    )))
