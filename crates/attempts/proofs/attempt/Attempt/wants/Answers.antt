use Rattle.std.proofs.Common.{inl}
use Rattle.attempts.proofs.WalkRuns.{goes_nowhere, wants_lock_or_word}
use Rattle.attempts.proofs.attempt.Attempt.wants.Goals as goal

pub returns-in-Requests-clause-some : goal.returns-in-Requests-clause-some
returns-in-Requests-clause-some g c = wants_lock_or_word _ c.args.self.now c.self.view_is (inl (c.in-Requests.lock, c.in-Requests.is))

pub returns-in_default-clause-none : goal.returns-in_default-clause-none
returns-in_default-clause-none g c =
    λ lock_word words most. goes_nowhere lock_word words most _ c.args.self.now c.self.view_is c.in_default.not-Requests c.in_default.not-Tests
