use Rattle.std.proofs.Common.{arith, sym}
use Rattle.{xbar_jobs.specs.Trunks.is_bit_clear, xbar_equip.proofs.FirstNumber.{next_below-found, next_below-none}}
use Rattle.xbar_jobs.proofs.trunks.next_clear.Goals as goal

pub returns-then-is_bit_clear-clause-next : goal.returns-then-is_bit_clear-clause-next
returns-then-is_bit_clear-clause-next c =
    sym (next_below-found (is_bit_clear c.args.word) c.args.count c.args.index c.loop-next.next (omega arith) (omega arith) (sym c.if-is_bit_clear.ensures)
    c.loop-next.invariant)

pub returns-clause-next : goal.returns-clause-next
returns-clause-next c =
    sym (next_below-none (is_bit_clear c.args.word) c.args.count c.args.index (λ k below. c.loop-next.invariant k (omega arith)))
