use Rattle.std.proofs.Common.{arith, length, sym}
use Rattle.{xbar_office.specs.Members.is_idle_at, xbar_equip.proofs.FirstNumber.{first_below-found, first_below-none}}
use Rattle.xbar_office.proofs.members.first_idle.Goals as goal

pub returns-then-is_idle_at-clause-first : goal.returns-then-is_idle_at-clause-first
returns-then-is_idle_at-clause-first c =
    sym (first_below-found (is_idle_at c.args.paths.now c.args.members.now) (length c.args.members.now) c.loop-index.index (omega arith)
    (sym c.if-is_idle_at.ensures) c.loop-index.invariant)

pub returns-clause-first : goal.returns-clause-first
returns-clause-first c =
    sym (first_below-none (is_idle_at c.args.paths.now c.args.members.now) (length c.args.members.now) (λ j below. c.loop-index.invariant j (omega arith)))
