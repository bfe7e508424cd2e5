use Rattle.std.proofs.Common.{◌<◌, ◌++◌, ◌∷◌, [], ◌∙◌, ap, subst, IfSome, length}
use Rattle.{turns.specs.Attempt.asked_in, desk_attempts.specs.Speculation.Speculation, attempts.specs.Validity.{CanWalk, AttemptView}}
use Rattle.desk_attempts.proofs.predicting.lock_to_acquire.Goals as goal

pub returns-clause-lock : goal.returns-clause-lock
returns-clause-lock g c = c.to_acquire.ensures.lock ∙ ap (λ (p : Speculation _ _ _ _). asked_in p.predicted.phase) c.program.view_is

pub returns-clause-room : goal.returns-clause-room
returns-clause-room g c =
    subst (λ (x : AttemptView _ _ _ _). IfSome c.to_acquire.result (λ lock. length x.held < g.row.HELD))
    (ap (λ (p : Speculation _ _ _ _). p.predicted) c.program.view_is) c.to_acquire.ensures.room

pub returns-clause-walk : goal.returns-clause-walk
returns-clause-walk g c =
    subst (λ (x : AttemptView _ _ _ _). IfSome c.to_acquire.result
    (λ lock. CanWalk g.S.Lock.PartialEq.eq g.S.Scripts.reply_of g.S.Scripts.effects_of (g.S.Scripts.system c.args.setting.now)
    (g.S.Scripts.ResumePointIsValid c.args.setting.now) (record x { held = x.held ++ lock ∷ [] })))
    (ap (λ (p : Speculation _ _ _ _). p.predicted) c.program.view_is) c.to_acquire.ensures.walk
