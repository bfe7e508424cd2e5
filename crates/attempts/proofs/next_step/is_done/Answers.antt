use Rattle.attempts.proofs.Inside.{is_busy}
use Rattle.attempts.proofs.next_step.is_done.Goals as goal

pub returns-in_default : goal.returns-in_default
returns-in_default g c =
    is_busy g.S.Scripts.reply_of g.S.Scripts.effects_of _ c.args.attempt.now c.attempt.view_is c.in_default.not-GivesBack c.in_default.not-Operates

pub holds_none-requires : goal.holds_none-requires
holds_none-requires g c = search

pub is_closed-requires : goal.is_closed-requires
is_closed-requires g c = search
