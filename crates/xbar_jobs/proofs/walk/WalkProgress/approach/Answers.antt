use Rattle.std.proofs.Common.{◌≡◌, rules, Ok, Err, ap, subst, sym, ◌∙◌, Result}
use Rattle.xbar_jobs.specs.{Script.Wanted, Tracing.{ResumePointIsValid, approach}, declared.{party.Party.Party, walk.WalkProgress.WalkProgress}}
use Rattle.xbar_jobs.proofs.{CompletingRows.known_on, WalksOnWords.{comes, found_now, grown}, TracedWalks.approached_there}
use Rattle.xbar_jobs.proofs.walk.WalkProgress.approach.Goals as goal

pub returns-in-Approached-clause-walk : goal.returns-in-Approached-clause-walk
returns-in-Approached-clause-walk c =
    approached_there c.args.line c.in-Approached.calling c.args.seen.now c.args.words.now
    (subst (λ (point : WalkProgress). ResumePointIsValid c.args.line point c.args.seen.now.seen) c.in-Approached.is c.requires)

pub returns-in-Traced : goal.returns-in-Traced
returns-in-Traced c =
    let has = subst (λ (point : WalkProgress). ResumePointIsValid c.args.line point c.args.seen.now.seen) c.in-Traced.is c.requires in
    record {
      walk = approached_there c.args.line c.in-Traced.calling c.args.seen.now c.args.words.now has.approached;
      found = has.approached;
      valid_point = c.requires;
    }

pub returns-in_err-calling : goal.returns-in_err-calling
returns-in_err-calling c =
    let wanted : c.from_residual.result ≡ Err c.in_err-calling.field-0.0 = search rules in
    let walked = ap (λ (r : Result Party Wanted). comes r c.approach.new.seen c.approach.new.words) (wanted ∙ sym c.in_err-calling.was) ∙ c.approach.ensures in
    record {
      walk = walked;
      found = found_now (approach c.args.line) c.args.seen.now c.approach.new.seen c.args.words.now c.approach.new.words c.from_residual.result walked;
      valid_point =
          known_on c.args.line c.args.self.now c.args.seen.now.seen c.approach.new.seen.seen
          (grown (approach c.args.line) c.args.seen.now c.approach.new.seen c.args.words.now c.approach.new.words c.from_residual.result walked) c.requires;
    }

pub returns : goal.returns
returns c =
    let walked = ap (λ (r : Result Party Wanted). comes r c.approach.new.seen c.approach.new.words) (sym c.in_ok-calling.was) ∙ c.approach.ensures in
    let found =
    found_now (approach c.args.line) c.args.seen.now c.approach.new.seen c.args.words.now c.approach.new.words (Ok c.in_ok-calling.calling) walked in
    record {
      walk = walked;
      found = found;
      valid_point = subst (λ (point : WalkProgress). ResumePointIsValid c.args.line point c.approach.new.seen.seen) (sym c.from_line.ensures) found;
    }
