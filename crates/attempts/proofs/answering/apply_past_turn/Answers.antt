use Rattle.std.proofs.Common.{ap, ◌∙◌}
use Rattle.attempts.specs.{Counting.counted_by, Validity.{AttemptView, attempt_of}}
use Rattle.attempts.proofs.answering.apply_past_turn.Goals as goal

pub returns-clause-operates : goal.returns-clause-operates
returns-clause-operates g c =
    ap (λ (p : AttemptView _ _ _ _). attempt_of g.S.Scripts.reply_of g.S.Scripts.effects_of p) c.count_steps.ensures ∙ c.operate.ensures.operates

pub returns-clause-phase : goal.returns-clause-phase
returns-clause-phase g c = ap (λ (p : AttemptView _ _ _ _). p.phase) c.count_steps.ensures ∙ c.operate.ensures.phase

pub returns-clause-count : goal.returns-clause-count
returns-clause-count g c = ap (λ (p : AttemptView _ _ _ _). p.count) c.count_steps.ensures ∙ ap (counted_by 1) c.operate.ensures.count

pub count_steps-requires : goal.count_steps-requires
count_steps-requires g c = search

pub operate-requires : goal.operate-requires
operate-requires g c = search
