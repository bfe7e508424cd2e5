use Rattle.std.proofs.Common.{◌≡◌, length, length-append, arith, ap, ◌∙◌}
use Rattle.std.proofs.lemmas.List.{length-map}
use Rattle.workers.proofs.shutting.desks_of.Goals as goal

pub push_reserved-requires : goal.push_reserved-requires
push_reserved-requires g c =
    let inv = c.loop-shift.invariant in
    let seen = c.loop-shift.yielded in
    let rest = c.next.new.self.rest.items in
    let given = c.in-Some.ensures.steps.0 in
    let long : length c.loop-shift.desks.items ≡ length seen = ap length inv.desks ∙ length-map seen (λ shift. shift.desk) in
    let all = ap length inv.rest in
    let both = length-append seen c.loop-shift.shift-iterator.rest.items in
    let one = ap length given in
    omega (arith, long, all, both, one, inv.capacity, c.requires.memory.1, c.args.shifts.ok.0, c.loop-shift.desks.ok.0)
