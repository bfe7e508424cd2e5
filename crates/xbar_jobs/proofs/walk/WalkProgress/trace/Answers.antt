use Rattle.std.proofs.Common.{◌≡◌, rules, Err, ap, subst, sym, ◌∙◌, Option, Result}
use Rattle.xbar_equip.specs.declared.path.Path.{Path}
use Rattle.xbar_jobs.specs.{Script.Wanted, Tracing.{ResumePointIsValid, trace}, declared.walk.WalkProgress.WalkProgress}
use Rattle.xbar_jobs.proofs.{CompletingRows.known_on, WalksOnWords.{comes, grown}, TracedWalks.{traced_now, traced_there}}
use Rattle.xbar_jobs.proofs.walk.WalkProgress.trace.Goals as goal

pub returns-in-Traced-clause-walk : goal.returns-in-Traced-clause-walk
returns-in-Traced-clause-walk c =
    let has = subst (λ (point : WalkProgress). ResumePointIsValid c.args.line point c.args.seen.now.seen) c.in-Traced.is c.requires.valid_point in
    traced_there c.args.line c.in-Traced.calling c.args.calling.now c.in-Traced.own c.args.seen.now c.args.words.now has c.requires.approached

pub returns-in_err-own : goal.returns-in_err-own
returns-in_err-own c =
    let wanted : c.from_residual.result ≡ Err c.in_err-own.field-0.0 = search rules in
    let walked = ap (λ (r : Result (Option Path) Wanted). comes r c.trace.new.seen c.trace.new.words) (wanted ∙ sym c.in_err-own.was) ∙ c.trace.ensures in
    record {
      walk = walked;
      valid_point =
          known_on c.args.line c.args.self.now c.args.seen.now.seen c.trace.new.seen.seen
          (grown (trace c.args.calling.now) c.args.seen.now c.trace.new.seen c.args.words.now c.trace.new.words c.from_residual.result walked)
          c.requires.valid_point;
    }

pub returns : goal.returns
returns c =
    let walked = ap (λ (r : Result (Option Path) Wanted). comes r c.trace.new.seen c.trace.new.words) (sym c.in_ok-own.was) ∙ c.trace.ensures in
    record {
      walk = walked;
      valid_point =
          subst (λ (point : WalkProgress). ResumePointIsValid c.args.line point c.trace.new.seen.seen) (sym c.from_path.ensures)
          (traced_now c.args.line c.args.calling.now c.in_ok-own.own c.args.seen.now c.trace.new.seen c.args.words.now c.trace.new.words c.requires.approached
          walked);
    }
