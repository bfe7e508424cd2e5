use Rattle.std.proofs.Common.{arith}
use Rattle.{attempts.proofs.Counts.count_is, xbar_jobs.specs.Office.office}
use Rattle.xbar_jobs.proofs.laws.counts_are_steps.Goals as goal

pub returns-clause-count : goal.returns-clause-count
returns-clause-count c = λ plan job answers laws in_range steady.
    let few = c.steady_attempts_are_short.ensures.fresh plan job answers laws in_range steady in
    count_is (office plan) job answers steady (omega (arith, few))

pub returns-clause-bound : goal.returns-clause-bound
returns-clause-bound c = λ plan job answers laws in_range steady.
    let few = c.steady_attempts_are_short.ensures.fresh plan job answers laws in_range steady in
    let is = count_is (office plan) job answers steady (omega (arith, few)) in
    omega (arith, few, is)
