use Rattle.std.proofs.Common.{arith}
use Rattle.{turns.{specs.Attempt.begin, proofs.{Standing.stands_begin, SteadyAttempts.{steady_within, within_begin}}}, attempts.specs.SystemWith.system_with}
use Rattle.attempts.proofs.Counts.{count_is}
use Rattle.attempts.proofs.laws.steady_attempts_are_short.Goals as goal

pub returns-clause-short : goal.returns-clause-short
returns-clause-short g c = λ setting effects job answers right bounded is_job steady.
    let O = system_with g.S.Lock.PartialEq.eq g.S.Scripts.reply_of g.S.Scripts.effects_of (g.S.Scripts.system setting) in
    let is = right.is_system in
    steady_within O is _ _ effects (record { asks = right.asks; effects = bounded }) _ (begin O job) answers is_job (stands_begin O is job is_job)
    (within_begin O is _ _ effects (record { asks = right.asks; effects = bounded }) _ job is_job (omega arith)) steady

pub returns-clause-count : goal.returns-clause-count
returns-clause-count g c = λ setting job answers steady below.
    count_is (system_with g.S.Lock.PartialEq.eq g.S.Scripts.reply_of g.S.Scripts.effects_of (g.S.Scripts.system setting)) job answers steady below
