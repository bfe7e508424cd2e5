use Rattle.std.proofs.Common.{◌≡◌, ℕ, suc, ◌∙◌, arith, subst, sym, Bool, Err, None, false, true}
use Rattle.{turns.specs.{Runs.is_available, System.system_of}, workers.specs.Tries.HasPersisted}
use Rattle.workers.proofs.{Logs.finished_more, Trying.{beginning_busy, not_both, tried_all, tried_finished, tried_last, tried_more, tried_well}}
use Rattle.workers.proofs.driving.persist.Goals.{else-loop-made-test, then-loop-made-test+in-Err+then-not-try_again}
use Rattle.workers.proofs.driving.persist.Goals as goal

pub returns-in-Ok-clause-persisted : goal.returns-in-Ok-clause-persisted
returns-in-Ok-clause-persisted g c =
    let inv = c.loop-made.invariant in
    let patient = subst (λ n. g.B.BackOff.Patience c.args.back_off.now n c.patience-patience.result) c.number.ensures.number c.patience-patience.ensures in
    record {
      idle =
          λ free. absurd (not_both _ free (subst (λ s. is_available (system_of (g.F.Jobs.system s)) c.args.desk.now.actor ≡ false) c.requires.desk_is
          (sym c.is_idle.ensures ∙ c.if-is_idle.false)));
      tried =
          λ busy. (
            c.patience-patience.result,
            patient,
            tried_well (system_of (g.F.Jobs.system c.args.setting.now)) (g.B.BackOff.Answers c.args.back_off.now) c.patience-patience.result inv.in_vain.0
                c.args.desk.now c.loop-made.desk c.try_once.new.desk c.in-Ok.reported inv.in_vain.2 (c.in-Ok.ensures.tried inv.busy),
          );
    }

pub loop-made-preserved : goal.loop-made-preserved
loop-made-preserved g c =
    let O = system_of (g.F.Jobs.system c.args.setting.now) in
    let answers = g.B.BackOff.Answers c.args.back_off.now in
    let inv = c.loop-made.invariant in
    let first = c.args.desk.now in
    let desk = c.loop-made.desk in
    let after = c.try_once.new.desk in
    let made = inv.in_vain.0 in
    let denied = c.in-Err.denied in
    let try = c.in-Err.ensures.tried inv.busy in
    let again =
    subst (λ (n : ℕ). answers n denied true) inv.in_vain.1
    (subst (λ (b : Bool). answers c.loop-made.made denied b) c.if-not-try_again.false c.try_again.ensures) in
    record {
      desk = c.try_once.ensures.desk;
      finished =
          finished_more O first desk after None (c.desks_report_their_records.ensures.both c.args.setting.now) inv.finished
          (tried_finished O c.patience-patience.result desk after (Err denied) try);
      busy = beginning_busy O after.actor try.beginning;
      in_vain = (suc made, omega (arith, inv.in_vain.1), tried_more O answers c.patience-patience.result made first desk after denied inv.in_vain.2 try again);
    }

pub returns-clause-persisted : goal.returns-clause-persisted
returns-clause-persisted g c =
    let O = system_of (g.F.Jobs.system c.args.setting.now) in
    let answers = g.B.BackOff.Answers c.args.back_off.now in
    let inv = c.loop-made.invariant in
    let first = c.args.desk.now in
    let made = inv.in_vain.0 in
    let patience = c.patience-patience.result in
    let patient = subst (λ n. g.B.BackOff.Patience c.args.back_off.now n patience) c.number.ensures.number c.patience-patience.ensures in
    let its_busy =
    subst (λ s. is_available (system_of (g.F.Jobs.system s)) c.args.desk.now.actor ≡ false) c.requires.desk_is (sym c.is_idle.ensures ∙ c.if-is_idle.false) in
    elim c.loop-made-test.branch [
      | else-loop-made-test w ↦
          subst (λ desk. HasPersisted O answers (g.B.BackOff.Patience c.args.back_off.now) first desk None) (sym w.desk-is) (record {
            idle = λ free. absurd (not_both _ free its_busy);
            tried =
                λ busy. (
                  patience,
                  patient,
                  tried_all O answers patience made first c.loop-made.desk
                      (omega (arith, inv.in_vain.1, w.loop-made-test.false, c.loop-made.auto.made, c.loop-made.auto.made-end)) inv.in_vain.2,
                );
          })
      | then-loop-made-test+in-Err+then-not-try_again w ↦
          let denied = w.in-Err.denied in
          let no_more =
          subst (λ (n : ℕ). answers n denied false) inv.in_vain.1
          (subst (λ (b : Bool). answers c.loop-made.made denied b) w.if-not-try_again.true w.try_again.ensures) in
          subst (λ desk. HasPersisted O answers (g.B.BackOff.Patience c.args.back_off.now) first desk None) (sym w.desk-is) (record {
            idle = λ free. absurd (not_both _ free its_busy);
            tried =
                λ busy. (
                  patience,
                  patient,
                  tried_last O answers patience made first c.loop-made.desk w.try_once.new.desk denied inv.in_vain.2 (w.in-Err.ensures.tried inv.busy) no_more,
                );
          })
    ]
