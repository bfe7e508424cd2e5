use Rattle.std.proofs.Common.{ap, subst, sym, ◌∙◌}
use Rattle.desk_attempts.{specs.Speculation.{Speculation, IsValidSpeculation, now_of}, proofs.{SnapshotWalks.plain, FirstFieldFits.first_field_fits}}
use Rattle.desk_attempts.proofs.now.begin_next_now.Goals as goal

pub returns-clause-begins : goal.returns-clause-begins
returns-clause-begins g c setting =
    ap (λ (p : Speculation _ _ _ _). now_of g.S.Scripts.reply_of g.S.Scripts.effects_of p) c.validate_all.ensures ∙ c.begin_next.ensures.begins setting

pub returns-clause-valid : goal.returns-clause-valid
returns-clause-valid g c setting are right =
    subst (λ (p : Speculation _ _ _ _). IsValidSpeculation g.S.Lock.PartialEq.eq g.S.Scripts.reply_of g.S.Scripts.effects_of (g.S.Scripts.system setting)
    (g.S.Scripts.ResumePointIsValid setting) g.row.READINGS g.row.HELD p) (sym c.validate_all.ensures)
    (plain g.S.Lock.PartialEq.eq g.S.Scripts.reply_of g.S.Scripts.effects_of (g.S.Scripts.system setting) (g.S.Scripts.ResumePointIsValid setting)
    g.row.READINGS g.row.HELD are c.begin_next.new.attempt (c.begin_next.ensures.valid setting are right))

pub begin_next-requires : goal.begin_next-requires
begin_next-requires g c = search (first_field_fits)

pub validate_all-requires : goal.validate_all-requires
validate_all-requires g c = search
