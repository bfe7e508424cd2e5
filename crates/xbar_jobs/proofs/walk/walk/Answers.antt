use Rattle.std.proofs.Common.{ap, sym, ◌∙◌, Ok, Result}
use Rattle.xbar_jobs.{specs.{Jobs.script, Script.Wanted, declared.decision.Decision.Decision}, proofs.{Covered.decision_range, WalksOnWords.{comes, found_now}}}
use Rattle.xbar_jobs.proofs.walk.walk.Goals as goal

pub new-requires : goal.new-requires
new-requires c =
    let come = ap (λ (r : Result Decision Wanted). comes r c.follow.new.seen c.follow.new.words) (sym c.in_ok-decision.was) ∙ c.follow.ensures.walk in
    let found =
    found_now (script c.args.plan.now c.args.job.now) c.args.seen.now c.follow.new.seen c.args.words.now c.follow.new.words (Ok c.in_ok-decision.decision)
    come in
    let range =
    decision_range c.args.plan.now c.follow.new.seen.seen c.args.job.now c.in_ok-decision.decision c.requires.plan c.requires.job
    c.fits_words.ensures (sym found) in
    record { effects = range.0; few = range.1 }
