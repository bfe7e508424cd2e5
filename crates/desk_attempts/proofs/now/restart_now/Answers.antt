use Rattle.std.proofs.Common.{ap, sym, ◌∙◌}
use Rattle.desk_attempts.{specs.Speculation.Speculation, proofs.SpeculationNow.{empty_of, is_far}}
use Rattle.{desk_attempts.proofs.SnapshotWalks.{plainly, restarted_far, settled, settled_now, stands_plain, stands_sure}, attempts.specs.Validity.attempt_of}
use Rattle.desk_attempts.proofs.now.restart_now.Goals as goal

pub restart_plain-requires : goal.restart_plain-requires
restart_plain-requires g c = search

pub returns-in-Some-clause-restarts : goal.returns-in-Some-clause-restarts
returns-in-Some-clause-restarts g c setting =
    restarted_far g.S.Lock.PartialEq.eq g.S.Scripts.reply_of g.S.Scripts.effects_of (g.S.Scripts.system setting) (g.S.Scripts.ResumePointIsValid setting)
    c.args.program.now c.drop_predictions.new.program c.restart_plain.new.program
    (settled_now g.S.Lock.PartialEq.eq g.S.Scripts.reply_of g.S.Scripts.effects_of (g.S.Scripts.system setting) (g.S.Scripts.ResumePointIsValid setting)
    c.args.program.now c.in-Some.prediction c.drop_predictions.new.program.predicted.point c.drop_predictions.new.program.predicted c.in-Some.ensures
    (ap (λ (p : Speculation _ _ _ _). p.predicted) c.drop_predictions.ensures.settled))
    (ap (λ (p : Speculation _ _ _ _). p.validated) c.drop_predictions.ensures.settled) c.restart_plain.ensures.validated
    (c.restart_plain.ensures.restarts setting)

pub returns-in-Some-clause-valid : goal.returns-in-Some-clause-valid
returns-in-Some-clause-valid g c setting are valid =
    stands_plain g.S.Lock.PartialEq.eq g.S.Scripts.reply_of g.S.Scripts.effects_of (g.S.Scripts.system setting) (g.S.Scripts.ResumePointIsValid setting)
    g.row.READINGS g.row.HELD are c.restart_plain.new.program
    (c.restart_plain.ensures.validated ∙ (ap (λ (p : Speculation _ _ _ _). p.validated) c.drop_predictions.ensures.settled))
    (c.restart_plain.ensures.valid setting are (settled g.S.Lock.PartialEq.eq g.S.Scripts.reply_of g.S.Scripts.effects_of (g.S.Scripts.system setting)
    (g.S.Scripts.ResumePointIsValid setting) g.row.READINGS g.row.HELD are c.args.program.now c.in-Some.prediction
    c.drop_predictions.new.program.predicted.point c.drop_predictions.new.program.predicted c.in-Some.ensures valid
    (c.drop_predictions.ensures.valid_point setting) (ap (λ (p : Speculation _ _ _ _). p.predicted) c.drop_predictions.ensures.settled)).1)

pub returns-in_default-clause-restarts : goal.returns-in_default-clause-restarts
returns-in_default-clause-restarts g c setting =
    restarted_far g.S.Lock.PartialEq.eq g.S.Scripts.reply_of g.S.Scripts.effects_of (g.S.Scripts.system setting) (g.S.Scripts.ResumePointIsValid setting)
    c.args.program.now c.validate_all.new.self c.restart_plain-in_default.new.program
    (ap (λ (p : Speculation _ _ _ _). attempt_of g.S.Scripts.reply_of g.S.Scripts.effects_of p.predicted) c.validate_all.ensures
    ∙ sym (is_far g.S.Scripts.reply_of g.S.Scripts.effects_of c.args.program.now c.in_default.ensures))
    (ap (λ (p : Speculation _ _ _ _). p.validated) c.validate_all.ensures) c.restart_plain-in_default.ensures.validated
    (c.restart_plain-in_default.ensures.restarts setting)

pub returns-in_default-clause-valid : goal.returns-in_default-clause-valid
returns-in_default-clause-valid g c setting are valid =
    stands_plain g.S.Lock.PartialEq.eq g.S.Scripts.reply_of g.S.Scripts.effects_of (g.S.Scripts.system setting) (g.S.Scripts.ResumePointIsValid setting)
    g.row.READINGS g.row.HELD are c.restart_plain-in_default.new.program
    (c.restart_plain-in_default.ensures.validated ∙ (ap (λ (p : Speculation _ _ _ _). p.validated) c.validate_all.ensures))
    (c.restart_plain-in_default.ensures.valid setting are
    (plainly g.S.Lock.PartialEq.eq g.S.Scripts.reply_of g.S.Scripts.effects_of (g.S.Scripts.system setting) (g.S.Scripts.ResumePointIsValid setting)
    g.row.READINGS g.row.HELD are c.validate_all.new.self (ap (λ (p : Speculation _ _ _ _). p.validated) c.validate_all.ensures)
    (stands_sure g.S.Lock.PartialEq.eq g.S.Scripts.reply_of g.S.Scripts.effects_of (g.S.Scripts.system setting) (g.S.Scripts.ResumePointIsValid setting)
    g.row.READINGS g.row.HELD are c.args.program.now c.validate_all.new.self (empty_of _ c.in_default.ensures) c.validate_all.ensures valid)))

pub prediction-requires : goal.prediction-requires
prediction-requires g c = search

pub drop_predictions-requires : goal.drop_predictions-requires
drop_predictions-requires g c = search

pub validate_all-requires : goal.validate_all-requires
validate_all-requires g c = search
