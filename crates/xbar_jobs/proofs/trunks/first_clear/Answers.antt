use Rattle.std.proofs.Common.{arith, sym}
use Rattle.{xbar_equip.proofs.FirstNumber.{first_below-found, first_below-none}, xbar_jobs.specs.Trunks.is_bit_clear}
use Rattle.xbar_jobs.proofs.trunks.first_clear.Goals as goal

pub returns-then-is_bit_clear-clause-first : goal.returns-then-is_bit_clear-clause-first
returns-then-is_bit_clear-clause-first c =
    sym (first_below-found (is_bit_clear c.args.word) c.args.count c.loop-index.index (omega arith) (sym c.if-is_bit_clear.ensures) c.loop-index.invariant)

pub returns-clause-first : goal.returns-clause-first
returns-clause-first c =
    sym (first_below-none (is_bit_clear c.args.word) c.args.count (λ j below. c.loop-index.invariant j (omega arith)))
