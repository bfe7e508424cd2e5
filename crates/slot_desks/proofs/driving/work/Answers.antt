use Rattle.std.proofs.Common.{◌∙◌, ap, arith, length, sym}
use Rattle.{slots.specs.{Few.list_of, System.slots}, workers.specs.Tries.{AnswersPausing, PatiencePausing}}
use Rattle.{workers.proofs.{Logs.logged_last, Trying.{logged_free, logged_stuck}}, slot_desks.proofs.Rounds.logged_slots}
use Rattle.slot_desks.proofs.driving.work.Goals as goal

pub returns-clause-done : goal.returns-clause-done
returns-clause-done c =
    let old = c.args.shift.now.log.items in
    let new = c.work.new.self.log.items in
    let one = c.work.ensures.done c.if-not-work.false in
    let same = logged_last old new c.args.number c.args.job c.in-Some.reported.now one c.in-Some.ensures in
    record {
      reported = one.reported;
      log_is = one.log_is;
      number_is = one.number_is;
      job_is = one.job_is;
      reply_is = ap (λ r. r.reply) same ∙ sym c.slots.ensures;
    }

pub returns-clause-slots : goal.returns-clause-slots
returns-clause-slots c =
    let shift = c.work.new.self in
    let one = c.work.ensures.done c.if-not-work.false in
    let same = logged_last c.args.shift.now.log.items shift.log.items c.args.number c.args.job c.in-Some.reported.now one c.in-Some.ensures in
    logged_slots shift.desk c.args.shift.now.log.items shift.log.items one.reported (list_of c.slots.result) c.work.ensures.log c.number-number.ensures.legal
    one.log_is (ap (λ r. r.reply) same ∙ sym c.slots.ensures)

pub returns-clause-free : goal.returns-clause-free
returns-clause-free c = λ free.
    let old = c.args.shift.now in
    let new = c.work.new.self in
    logged_free slots AnswersPausing PatiencePausing old.desk new.desk c.args.number c.args.job _ old.log.items new.log.items c.work.result free
    c.if-not-work.false c.work.ensures.logged

pub returns-then-not-work-clause-stuck : goal.returns-then-not-work-clause-stuck
returns-then-not-work-clause-stuck c = λ free.
    let old = c.args.shift.now in
    let new = c.work.new.self in
    logged_stuck slots AnswersPausing PatiencePausing old.desk new.desk c.args.number c.args.job _ _ _ old.log.items new.log.items c.work.result free
    c.if-not-work.true
    (λ same none. let lens = ap length same in let full = none.0 in let room = none.1 in omega (arith, lens, full, room, old.log.ok.0, new.log.ok.0))
    c.work.ensures.logged
