use Rattle.attempts.proofs.answering.deny_request.Goals as goal

pub returns-else-asks-clause-point : goal.returns-else-asks-clause-point
returns-else-asks-clause-point g c = c.roll_back.ensures.point c.args.setting.now
