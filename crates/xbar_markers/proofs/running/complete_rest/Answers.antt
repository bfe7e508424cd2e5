use Rattle.std.proofs.Common.{arith, length, refl}
use Rattle.{std.proofs.lemmas.Option.slice_get_read, xbar_markers.proofs.{DeskRuns.{on_ok, served_at}, Serving.served_on}}
use Rattle.xbar_markers.proofs.running.complete_rest.Goals as goal

pub returns-clause-served : goal.returns-clause-served
returns-clause-served g c =
    let workers = c.args.workers.now.items in
    let worker = c.in-Some.worker.now in
    let whole = c.args.whole.now in
    let found = c.in-Some.ensures.variant.0 refl in
    let there = slice_get_read workers (length workers) c.args.at worker refl (omega (arith, found, c.args.workers.now.ok.0)) c.in-Some.ensures.value in
    on_ok c.complete_kept.result
    (λ kept. served_at c.args.at workers worker c.complete_kept.new.self whole c.complete_kept.new.share there
    (served_on worker.desk c.complete_all.new.self.desk c.complete_kept.new.self.desk whole c.complete_all.new.share c.complete_kept.new.share
    c.in_ok-complete_all.ensures.served kept))
    c.complete_kept.ensures.served
