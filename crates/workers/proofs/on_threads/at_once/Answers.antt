use Rattle.std.proofs.Common.{◌≡◌, ◌<◌, ◌∙◌, ◌++◌, ℕ, [], length, sym, ap, subst, arith, slice_index_or}
use Rattle.{std.proofs.lemmas.List.length-map, desks.specs.{Parts.own, Reports.unreported, Views.{IsDeskOf, new_desk}}, turns.specs.System.system_of}
use Rattle.workers.{specs.Workers.{IsLogOf, records}, proofs.{Logs.new_log, Shifts.{at_each, is_desk, new_desk_at, of_both, of_each}}}
use Rattle.workers.proofs.on_threads.at_once.Goals as goal

pub map_vec-requires-after_bounds : goal.map_vec-requires-after_bounds
map_vec-requires-after_bounds g c κs within i desk lt here = λ shift same empty.
    let room = c.args._room.now in
    let setting = c.args._setting.now in
    let O = system_of (g.F.Jobs.system setting) in
    let new = same ∙ new_desk_at room c.args.desks.items i desk c.requires.desks lt here in
    c.requires.begins shift (is_desk room setting i shift.desk c.requires.setting new)
    (subst (λ l. IsLogOf O shift.desk l) (sym empty) (new_log O room i shift.desk new)) empty

pub returns-clause-desks : goal.returns-clause-desks
returns-clause-desks g c =
    let room = c.args._room.now in
    let setting = c.args._setting.now in
    let desks = c.args.desks in
    let shifts = c.in_ok-shifts.shifts in
    let came = c.in_ok-shifts.ensures in
    of_each (λ shift. shift.desk) (λ i desk. IsDeskOf desk room setting × (desk.number ≡ i)) shifts.items
    (λ i d lt.
    let below : i < length desks.items = omega (arith, came.len, shifts.ok.0, desks.ok.0, lt) in
    let one = (came.each i d below).1 in
    let new = new_desk_at room desks.items i one.job c.requires.desks below one.job_read in
    let call = one.call.met in
    let kept = c.requires.keeps call.0 (slice_index_or shifts.items i d) call.3 in
    (kept.0, kept.1 ∙ ap (λ desk. desk.number) (call.1 ∙ new)))

pub returns-clause-logs : goal.returns-clause-logs
returns-clause-logs g c =
    let room = c.args._room.now in
    let O = system_of (g.F.Jobs.system c.args._setting.now) in
    let desks = c.args.desks in
    let shifts = c.in_ok-shifts.shifts in
    let came = c.in_ok-shifts.ensures in
    record {
      count = length-map shifts.items (λ shift. records shift.log.items) ∙ sym (length-map shifts.items (λ shift. shift.desk));
      each = of_both (λ shift. shift.desk) (λ shift. records shift.log.items) (λ i desk log. own i desk.seen ≡ log ++ unreported O i desk.actor) shifts.items
          (λ i d lt.
          let below : i < length desks.items = omega (arith, came.len, shifts.ok.0, desks.ok.0, lt) in
          let one = (came.each i d below).1 in
          let new = new_desk_at room desks.items i one.job c.requires.desks below one.job_read in
          let call = one.call.met in
          let shift = slice_index_or shifts.items i d in
          let kept = c.requires.keeps call.0 shift call.3 in
          subst (λ (n : ℕ). own n shift.desk.seen ≡ records shift.log.items ++ unreported O n shift.desk.actor)
          (kept.1 ∙ ap (λ desk. desk.number) (call.1 ∙ new)) kept.2);
    }

pub returns-clause-each : goal.returns-clause-each
returns-clause-each g c =
    let room = c.args._room.now in
    let desks = c.args.desks in
    let shifts = c.in_ok-shifts.shifts in
    let came = c.in_ok-shifts.ensures in
    at_each (λ i after. (shift : _) × (shift.desk ≡ new_desk room i) × (shift.log.items ≡ []) × g.W.Routine.Ends c.args.routine.now shift after) shifts.items
    (λ i d lt.
    let below : i < length desks.items = omega (arith, came.len, shifts.ok.0, desks.ok.0, lt) in
    let one = (came.each i d below).1 in
    let new = new_desk_at room desks.items i one.job c.requires.desks below one.job_read in
    let call = one.call.met in
    (call.0, call.1 ∙ new, call.2, call.3))
