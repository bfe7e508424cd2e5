use Rattle.std.proofs.Common.{ap, subst, sym}
use Rattle.{desk_attempts.{specs.Speculation.Speculation, proofs.FirstFieldFits.first_field_fits}, attempts.specs.Validity.{AttemptView, IsValid}}
use Rattle.desk_attempts.proofs.now.restart_plain.Goals as goal

pub returns-clause-valid : goal.returns-clause-valid
returns-clause-valid g c setting are valid =
    c.restart.ensures.valid setting are (subst (λ (x : AttemptView _ _ _ _). IsValid g.S.Lock.PartialEq.eq g.S.Scripts.reply_of g.S.Scripts.effects_of
    (g.S.Scripts.system setting) (g.S.Scripts.ResumePointIsValid setting) g.row.READINGS g.row.HELD x)
    (sym (ap (λ (p : Speculation _ _ _ _). p.predicted) c.program.view_is)) valid)

pub restart-requires : goal.restart-requires
restart-requires g c = search (first_field_fits)
