use Rattle.std.proofs.Common.{ap, ◌∙◌}
use Rattle.attempts.{specs.Counting.{count_in, counted}, proofs.Inside.{counts_from_none, counts_more, recounts, same_count}}
use Rattle.attempts.proofs.attempt.Attempt.count_step.Goals.{then-is_fresh, else-is_fresh}
use Rattle.attempts.proofs.attempt.Attempt.count_step.Goals as goal

pub is_fresh-requires : goal.is_fresh-requires
is_fresh-requires g c = search

pub returns : goal.returns
returns g c =
    recounts _ c.args.self.now c.if-is_fresh.self (λ p. count_in p.phase p.held (counted p.count)) c.self.view_is
    (elim c.if-is_fresh.branch [
      | then-is_fresh w ↦ counts_from_none _ _ _ _ w.self-is w.if-is_fresh.true c.is_fresh.ensures
      | else-is_fresh w ↦ counts_more _ _ _ _ (w.self-is ∙ w.next_count-self-inside.ensures ∙ ap counted (same_count _ c.args.self.now c.self.view_is))
          w.if-is_fresh.false c.is_fresh.ensures
    ])
