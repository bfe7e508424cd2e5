use Rattle.std.proofs.Common.{ap, ◌∙◌}
use Rattle.attempts.{specs.Validity.AttemptView, proofs.Giving.frees_on}
use Rattle.attempts.proofs.answering.free_on.Goals as goal

pub drop_first_lock-requires : goal.drop_first_lock-requires
drop_first_lock-requires g c = search

pub returns-clause-frees : goal.returns-clause-frees
returns-clause-frees g c =
    λ setting. frees_on g.S.Lock.PartialEq.eq g.S.Scripts.reply_of g.S.Scripts.effects_of (g.S.Scripts.system setting) c.args.attempt.now
    c.drop_first_lock.new.self c.give_back.new.attempt c.drop_first_lock.ensures (c.give_back.ensures.frees setting)

pub returns-clause-point : goal.returns-clause-point
returns-clause-point g c = c.give_back.ensures.point

pub returns-clause-count : goal.returns-clause-count
returns-clause-count g c = c.give_back.ensures.count ∙ ap (λ (p : AttemptView _ _ _ _). p.count) c.drop_first_lock.ensures

pub give_back-requires : goal.give_back-requires
give_back-requires g c = search
