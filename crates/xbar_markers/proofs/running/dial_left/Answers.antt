use Rattle.std.proofs.Common.{arith, length, refl}
use Rattle.{std.proofs.lemmas.Option.slice_get_read, xbar_markers.proofs.DeskRuns.{on_ok, served_at}}
use Rattle.xbar_markers.proofs.running.dial_left.Goals as goal

pub returns-clause-served : goal.returns-clause-served
returns-clause-served g c =
    let workers = c.args.workers.now.items in
    let first = c.in-Some.first.now in
    let found = c.in-Some.ensures.variant.0 refl in
    let there = slice_get_read workers (length workers) 0 first refl (omega (arith, found, c.args.workers.now.ok.0)) c.in-Some.ensures.value in
    on_ok c.dial_all.result (served_at 0 workers first c.dial_all.new.self c.args.whole.now c.dial_all.new.share there) c.dial_all.ensures.served
