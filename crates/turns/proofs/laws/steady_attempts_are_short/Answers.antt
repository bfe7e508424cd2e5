use Rattle.std.proofs.Common.{◌*◌, ◌+◌, arith, length}
use Rattle.turns.{specs.Attempt.begin, proofs.{Standing.stands_begin, SteadyAttempts.{steady_within, within_begin, within_anywhere}}}
use Rattle.turns.proofs.laws.steady_attempts_are_short.Goals as goal

pub returns-clause-fresh : goal.returns-clause-fresh
returns-clause-fresh g c = λ setting tests seizings effects job answers is bounded right steady.
    let O = g.F.Family.system setting in
    steady_within O is tests seizings effects bounded (3 * seizings + tests + effects + 1) (begin O job) answers right (stands_begin O is job right)
    (within_begin O is tests seizings effects bounded (3 * seizings + tests + effects + 1) job right (omega arith)) steady

pub returns-clause-anywhere : goal.returns-clause-anywhere
returns-clause-anywhere g c = λ setting tests seizings effects w k number a answers is bounded law there steady.
    let O = g.F.Family.system setting in
    let sound = law.sound k number a there in
    steady_within O is tests seizings effects bounded (1 + length a.held + (3 * seizings + tests + effects + 1)) a answers sound.job sound.valid
    (within_anywhere O is tests seizings effects bounded w k number a law.are_words sound) steady
