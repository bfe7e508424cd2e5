use Rattle.std.proofs.Common.{◌∙◌, refl}
use Rattle.xbar_markers.proofs.{KeptCalls.{HasTakenKept, kept_completed, left_tone, nothing_left, served_same}, ServedSteps.HasEnded}
use Rattle.xbar_markers.proofs.{Serving.{served_none, served_on}, Works.{kind_worked, ready_worked}}
use Rattle.xbar_markers.proofs.completing.Worker+Desk+G.complete_kept.Goals as goal

pub loop-call-init : goal.loop-call-init
loop-call-init g c = record {
  ready = c.requires.ready;
  kind = c.requires.kind;
  calls = refl;
  tasks = refl;
  kept = c.requires.kept;
  served = served_none c.args.self.now.desk c.args.share.now;
}

pub complete-requires-clause-tone : goal.complete-requires-clause-tone
complete-requires-clause-tone g c =
    let share = c.loop-call.share in
    let between = record share { kept = c.pop.new.self } in
    let taken : HasTakenKept c.in-Some.call share between = record { calls = refl; tasks = refl; kept = c.in-Some.ensures.items; ended = refl } in
    (left_tone c.in-Some.call share between taken c.loop-call.invariant.kept).1

pub loop-call-preserved : goal.loop-call-preserved
loop-call-preserved g c =
    let inv = c.loop-call.invariant in
    let share = c.loop-call.share in
    let call = c.in-Some.call in
    let between = record share { kept = c.pop.new.self } in
    let after = record share { kept = c.pop.new.self; ended = c.put_behind.new.list } in
    let taken : HasTakenKept call share between = record { calls = refl; tasks = refl; kept = c.in-Some.ensures.items; ended = refl } in
    let ended : HasEnded c.complete.result between after = record { calls = refl; tasks = refl; kept = refl; ended = c.in_ok-put_behind.ensures } in
    let tone = left_tone call share between taken inv.kept in
    let worked = c.complete.ensures.worked in record {
      ready = ready_worked worked inv.ready;
      kind = kind_worked worked ∙ inv.kind;
      calls = inv.calls;
      tasks = inv.tasks;
      kept = tone.0;
      served = served_on c.args.self.now.desk c.loop-call.self.desk c.complete.new.self.desk c.args.share.now share after inv.served
          (kept_completed c.loop-call.self.desk c.complete.new.self.desk call c.complete.result share between after taken ended tone.1 c.complete.ensures);
    }

pub returns-clause-served : goal.returns-clause-served
returns-clause-served g c =
    let share = c.loop-call.share in
    let after = record share { kept = c.pop.new.self } in
    let desk = c.loop-call.self.desk in
    served_on c.args.self.now.desk desk desk c.args.share.now share after c.loop-call.invariant.served
    (served_same desk share after c.loop-call.invariant.ready.idle refl refl (nothing_left share.kept.items c.pop.new.self.items c.in_default.ensures.items)
    refl)
