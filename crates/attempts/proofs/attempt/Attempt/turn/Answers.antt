use Rattle.std.proofs.Common.{ap, ◌∙◌}
use Rattle.{turns.specs.{Attempt.turn_in, declared.phase.Phase.TheVariants.Operates}, attempts.{specs.Validity.AttemptView, proofs.Inside.{in_phase, no_turn}}}
use Rattle.attempts.proofs.attempt.Attempt.turn.Goals as goal

pub returns-in-Operates : goal.returns-in-Operates
returns-in-Operates g c = in_phase (λ p phase. turn_in phase) _ c.args.self.now (Operates c.in-Operates.turn) c.self.view_is c.in-Operates.is

pub returns-in_default : goal.returns-in_default
returns-in_default g c = no_turn _ c.in_default.not-Operates ∙ ap (λ (p : AttemptView _ _ _ _). turn_in p.phase) c.self.view_is
