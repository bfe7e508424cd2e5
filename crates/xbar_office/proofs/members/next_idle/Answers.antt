use Rattle.std.proofs.Common.{arith, length, sym}
use Rattle.{xbar_equip.proofs.FirstNumber.{next_below-found, next_below-none}, xbar_office.specs.Members.is_idle_at}
use Rattle.xbar_office.proofs.members.next_idle.Goals as goal

pub returns-then-is_idle_at-clause-next : goal.returns-then-is_idle_at-clause-next
returns-then-is_idle_at-clause-next c =
    sym (next_below-found (is_idle_at c.args.paths.now c.args.members.now) (length c.args.members.now) c.args.index c.loop-next.next (omega arith) (omega arith)
    (sym c.if-is_idle_at.ensures) c.loop-next.invariant)

pub returns-clause-next : goal.returns-clause-next
returns-clause-next c =
    sym (next_below-none (is_idle_at c.args.paths.now c.args.members.now) (length c.args.members.now) c.args.index
    (λ k below. c.loop-next.invariant k (omega arith)))
