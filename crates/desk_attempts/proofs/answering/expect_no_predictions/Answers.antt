use Rattle.std.proofs.Common.{ap, sym, ◌∙◌}
use Rattle.desk_attempts.{specs.Speculation.Speculation, proofs.{SpeculationNow.empty_of, SnapshotWalks.{now_plain, now_sure, plainly, stands_sure}}}
use Rattle.desk_attempts.proofs.answering.expect_no_predictions.Goals as goal

pub returns : goal.returns
returns g c =
    let none = empty_of _ c.requires.none in
    let validated = ap (λ (p : Speculation _ _ _ _). p.validated) c.validate_all.ensures in
    let valid =
    stands_sure g.S.Lock.PartialEq.eq g.S.Scripts.reply_of g.S.Scripts.effects_of (g.S.Scripts.system c.args.setting.now)
    (g.S.Scripts.ResumePointIsValid c.args.setting.now) g.row.READINGS g.row.HELD c.requires.may.scripts c.args.program.now c.validate_all.new.self none
    c.validate_all.ensures c.requires.may.valid in
    record {
      validated = validated;
      now =
          sym (now_plain g.S.Lock.PartialEq.eq g.S.Scripts.reply_of g.S.Scripts.effects_of (g.S.Scripts.system c.args.setting.now)
          (g.S.Scripts.ResumePointIsValid c.args.setting.now) c.validate_all.new.self validated)
          ∙ now_sure g.S.Lock.PartialEq.eq g.S.Scripts.reply_of g.S.Scripts.effects_of (g.S.Scripts.system c.args.setting.now)
          (g.S.Scripts.ResumePointIsValid c.args.setting.now) g.row.READINGS g.row.HELD c.requires.may.scripts c.args.program.now c.validate_all.new.self none
          c.validate_all.ensures;
      may = record { setting = c.requires.may.setting; scripts = c.requires.may.scripts; valid = valid };
      setting = c.requires.may.setting;
      scripts = c.requires.may.scripts;
      valid =
          plainly g.S.Lock.PartialEq.eq g.S.Scripts.reply_of g.S.Scripts.effects_of (g.S.Scripts.system c.args.setting.now)
          (g.S.Scripts.ResumePointIsValid c.args.setting.now) g.row.READINGS g.row.HELD c.requires.may.scripts c.validate_all.new.self validated valid;
    }
