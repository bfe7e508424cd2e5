use Rattle.std.proofs.Common.{◌≡◌, ap, ◌∙◌, None}
use Rattle.{xbar_office.specs.{State.State, Whole.whole}, xbar_plan.specs.Tables.Tables, xbar_page.proofs.SectionSteps.{next_set, no_set}}
use Rattle.xbar_page.proofs.page.sets_after.Goals as goal

pub loop-owner-preserved : goal.loop-owner-preserved
loop-owner-preserved c =
    let plan = c.args.plan.now in
    let paths = c.loop-owner.office.paths in
    let owner = c.owner-item.result in
    let next = next_set plan None c.args.records.now c.loop-owner.owner-index paths c.loop-owner.sets.items owner c.owner-item.is c.loop-owner-test.true in
    let left : c.whole.new.self.paths ≡ (whole plan paths owner.job).paths =
    ap (λ (o : State). o.paths) c.in_ok-whole.ensures.ok ∙ ap (λ (p : Tables). (whole p paths owner.job).paths) c.loop-owner.invariant.plan in
    record {
      plan = ap (λ (o : State). o.plan) c.in_ok-whole.ensures.ok ∙ c.loop-owner.invariant.plan;
      sets = rw (c.in_ok-push.ensures.items, c.in_ok-of.ensures, c.paths.ensures.paths, left) (next ∙ c.loop-owner.invariant.sets);
    }

pub returns : goal.returns
returns c =
    no_set c.args.plan.now None c.args.records.now c.loop-owner.owner-index c.loop-owner.office.paths c.loop-owner.sets.items c.loop-owner-test.false
    ∙ c.loop-owner.invariant.sets
