use Rattle.std.proofs.Common.{ap, ◌∙◌}
use Rattle.turns.specs.{declared.phase.Phase.TheVariants.{GivesBack, Withdraws}, Outcomes.{is_giving_back as is_giving_back_in}}
use Rattle.attempts.{specs.Validity.AttemptView, proofs.Inside.{goes_ahead, in_phase}}
use Rattle.attempts.proofs.attempt.Attempt.is_giving_back.Goals as goal

pub returns-in-Withdraws : goal.returns-in-Withdraws
returns-in-Withdraws g c = in_phase (λ p phase. is_giving_back_in phase) _ c.args.self.now (Withdraws c.in-Withdraws.field-0) c.self.view_is c.in-Withdraws.is

pub returns-in-GivesBack : goal.returns-in-GivesBack
returns-in-GivesBack g c = in_phase (λ p phase. is_giving_back_in phase) _ c.args.self.now GivesBack c.self.view_is c.in-GivesBack.is

pub returns-in_default : goal.returns-in_default
returns-in_default g c =
    goes_ahead _ c.in_default.not-Withdraws c.in_default.not-GivesBack ∙ ap (λ (p : AttemptView _ _ _ _). is_giving_back_in p.phase) c.self.view_is
