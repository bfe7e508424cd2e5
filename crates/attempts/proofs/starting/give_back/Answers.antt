use Rattle.std.proofs.Common.{ap}
use Rattle.attempts.{specs.Validity.{AttemptView, attempt_of}, proofs.{Giving.{begins_anew, gives_back}, Walking.known_anywhere}}
use Rattle.attempts.proofs.starting.give_back.Goals as goal

pub returns-then-holds_none-clause-frees : goal.returns-then-holds_none-clause-frees
returns-then-holds_none-clause-frees g c =
    λ setting. begins_anew g.S.Lock.PartialEq.eq g.S.Scripts.reply_of g.S.Scripts.effects_of (g.S.Scripts.system setting) _ c.args.attempt.now c.attempt.view_is
    c.holds_none.result c.holds_none.ensures c.start_over.new.attempt c.if-holds_none.true (c.start_over.ensures.begins setting)

pub returns-then-holds_none-clause-point : goal.returns-then-holds_none-clause-point
returns-then-holds_none-clause-point g c =
    λ setting. known_anywhere (g.S.Scripts.ResumePointIsValid setting) (attempt_of g.S.Scripts.reply_of g.S.Scripts.effects_of c.start_over.new.attempt)
    c.start_over.new.attempt.point c.start_over.new.attempt.phase (c.start_over.ensures.point setting)

pub returns-then-holds_none-clause-count : goal.returns-then-holds_none-clause-count
returns-then-holds_none-clause-count g c = c.start_over.ensures.count

pub returns-else-holds_none-clause-frees : goal.returns-else-holds_none-clause-frees
returns-else-holds_none-clause-frees g c =
    λ setting. gives_back g.S.Lock.PartialEq.eq g.S.Scripts.reply_of g.S.Scripts.effects_of (g.S.Scripts.system setting) _ c.args.attempt.now c.attempt.view_is
    c.holds_none.result c.holds_none.ensures c.if-holds_none.false

pub returns-else-holds_none-clause-point : goal.returns-else-holds_none-clause-point
returns-else-holds_none-clause-point g c = λ setting. tt

pub returns-else-holds_none-clause-count : goal.returns-else-holds_none-clause-count
returns-else-holds_none-clause-count g c = ap (λ (p : AttemptView _ _ _ _). p.count) c.attempt.view_is

pub start_over-requires : goal.start_over-requires
start_over-requires g c = search
