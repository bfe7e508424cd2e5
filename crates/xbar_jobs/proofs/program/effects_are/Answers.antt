use Rattle.std.proofs.Common.{ap, sym, ◌∙◌, option_copied}
use Rattle.xbar_jobs.proofs.Programs.{left_effects, none_left}
use Rattle.xbar_jobs.proofs.program.effects_are.Goals as goal

pub returns-in-Some : goal.returns-in-Some
returns-in-Some c =
    left_effects c.args.attempt.now.decision _ c.args.attempt.now.made (sym c.decision.ensures ∙ ap option_copied c.in-Some.is) c.is_of_the_office.ensures

pub returns-in-None : goal.returns-in-None
returns-in-None c = none_left c.args.attempt.now.decision c.args.attempt.now.made (sym c.decision.ensures ∙ ap option_copied c.in-None.is)
