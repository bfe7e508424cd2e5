use Rattle.std.proofs.Common.{◌≡◌, ◌∙◌, [], ◌∷◌, ◌++◌, true, false, ap, refl, subst}
use Rattle.xbar_markers.specs.{Calls.{HasDialTone, is_dial_tone}, declared.call_records.CallRecords.CallRecords}
use Rattle.xbar_markers.proofs.{ServedSteps.{dialled_ended, dialled_passed}, Serving.served_none, Tones.not_tone, Works.done_worked}
use Rattle.xbar_markers.proofs.dialling.Worker+Desk+G.dial_next.Goals as goal

pub returns-in_default-clause-served : goal.returns-in_default-clause-served
returns-in_default-clause-served g c =
    rw c.in_default.ensures.none (served_none c.args.self.now.desk c.args.share.now)

pub returns-in_ok-pass_on-clause-served : goal.returns-in_ok-pass_on-clause-served
returns-in_ok-pass_on-clause-served g c =
    let dialled = c.dial-call.ensures.dialled in
    let tone : HasDialTone c.dial-call.result =
    record {
      dialled = dialled;
      tone = subst (λ (call : CallRecords). is_dial_tone call.dial.reply.end ≡ true) c.call.view_is (ap is_dial_tone c.in-DialTone.is);
    } in
    dialled_passed c.args.self.now.desk c.dial-call.new.self.desk c.in-Some.call c.dial-call.result c.args.share.now record c.args.share.now
    { calls = c.try_take.new.ticket } c.pass_on.new.self
    record { calls = c.in-Some.ensures.taken; tasks = refl; kept = refl; ended = refl }
    c.in_ok-pass_on.ensures.passed c.dial-call.ensures.call tone
    (done_worked c.dial-call.ensures.done (rw c.requires.serve.kind_is refl))

pub returns-in_ok-put_behind-clause-served : goal.returns-in_ok-put_behind-clause-served
returns-in_ok-put_behind-clause-served g c =
    dialled_ended c.args.self.now.desk c.dial-call.new.self.desk c.in-Some.call c.dial-call.result c.args.share.now record c.args.share.now
    { calls = c.try_take.new.ticket } record c.args.share.now { calls = c.try_take.new.ticket; ended = c.put_behind.new.list }
    record { calls = c.in-Some.ensures.taken; tasks = refl; kept = refl; ended = refl }
    record {
      calls = refl;
      tasks = refl;
      kept = refl;
      ended = c.in_ok-put_behind.ensures ∙ ap (λ (call : CallRecords). c.args.share.now.ended.items ++ call ∷ []) c.into_records.ensures;
    }
    c.dial-call.ensures.call c.dial-call.ensures.dialled
    (subst (λ (call : CallRecords). is_dial_tone call.dial.reply.end ≡ false) c.call.view_is
    (not_tone c.call.inside.dial.reply.end c.in_default-end.not-DialTone))
    (done_worked c.dial-call.ensures.done (rw c.requires.serve.kind_is refl))
