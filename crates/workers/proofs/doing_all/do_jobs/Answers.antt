use Rattle.std.proofs.Common.{arith, ap, inr, length}
use Rattle.{turns.specs.System.system_of, workers.proofs.Trying.logged_stuck}
use Rattle.workers.proofs.doing_all.do_jobs.Goals as goal

pub returns-then-not-work-clause-stopped : goal.returns-then-not-work-clause-stopped
returns-then-not-work-clause-stopped g c = λ free.
    let O = system_of (g.F.Jobs.system c.args.setting.now) in
    let before = c.loop-ended.shift in
    let after = c.work.new.self in
    inr (logged_stuck O (g.B.BackOff.Answers c.args.back_off.now) (g.B.BackOff.Patience c.args.back_off.now) before.desk after.desk c.loop-ended.ended
    c.in-Some.job _ _ _ before.log.items after.log.items c.work.result (c.loop-ended.invariant.free free) c.if-not-work.true
    (λ same none. let lens = ap length same in let full = none.0 in let room = none.1 in omega (arith, lens, full, room, before.log.ok.0, after.log.ok.0))
    c.work.ensures.logged)
