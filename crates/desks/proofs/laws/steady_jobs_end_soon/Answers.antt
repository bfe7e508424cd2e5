use Rattle.std.proofs.Common.{◌+◌, ◌*◌, length, arith}
use Rattle.{turns.specs.{Attempt.begin, System.system_of}, desks.proofs.Bounded.{amid_bounded, run_steady, steady_bounded, steady_both}}
use Rattle.desks.proofs.laws.steady_jobs_end_soon.Goals as goal

pub returns-clause-assigned : goal.returns-clause-assigned
returns-clause-assigned g c = λ setting is tests seizings effects k number count job m after bounded right made.
    let O = system_of (g.F.Jobs.system setting) in
    let system = g.met.F.Jobs.is_system setting is in
    steady_bounded O k count number (begin O job) after (3 * seizings + tests + effects + 1) made
    (λ answers steady. c.steady_attempts_are_short.ensures.fresh setting tests seizings effects job answers system bounded right steady)

pub returns-clause-under_way : goal.returns-clause-under_way
returns-clause-under_way g c = λ setting is tests seizings effects k number count a after bounded made.
    let O = system_of (g.F.Jobs.system setting) in
    let system = g.met.F.Jobs.is_system setting is in
    let most = 1 + length a.held + (3 * seizings + tests + effects + 1) in
    amid_bounded O k count number a after most (omega arith) made
    (λ w law there answers steady. c.steady_attempts_are_short.ensures.anywhere setting tests seizings effects w k number a answers system bounded law there
    steady)

pub returns-clause-made : goal.returns-clause-made
returns-clause-made g c setting = run_steady (system_of (g.F.Jobs.system setting))

pub returns-clause-both : goal.returns-clause-both
returns-clause-both g c setting = steady_both (system_of (g.F.Jobs.system setting))
