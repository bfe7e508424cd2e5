use Rattle.std.proofs.Common.{arith}
use Rattle.xbar_jobs.{specs.Standing.{most_effects, most_seizings, most_readings}, proofs.{JobBounds.jobs_bounded, OfficeSystem.office_is}}
use Rattle.xbar_jobs.proofs.laws.steady_attempts_are_short.Goals as goal

pub returns-clause-fresh : goal.returns-clause-fresh
returns-clause-fresh c = λ plan job answers laws in_range steady.
    let few =
    c.steady_attempts_are_short.ensures.fresh plan most_readings most_seizings most_effects job answers (office_is plan laws) (jobs_bounded plan laws) in_range
    steady in
    omega (arith, few)

pub returns-clause-anywhere : goal.returns-clause-anywhere
returns-clause-anywhere c = λ plan w k number a answers laws lawful does steady.
    let few =
    c.steady_attempts_are_short.ensures.anywhere plan most_readings most_seizings most_effects w k number a answers (office_is plan laws)
    (jobs_bounded plan laws) lawful does steady in
    omega (arith, few)
