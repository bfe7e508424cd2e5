use Rattle.std.proofs.Common.{[], ◌∙◌, string_bytes}
use Rattle.{xbar_office.specs.Whole.whole, xbar_page.proofs.SectionSteps.{next_section, no_section}}
use Rattle.xbar_page.proofs.page.add_sections.Goals as goal

pub loop-place-preserved : goal.loop-place-preserved
loop-place-preserved c =
    let plan = c.args.plan.now in
    let owner = c.index-records-place.result in
    let next =
    next_section plan c.loop-place.before c.args.records.now c.loop-place.place (string_bytes c.loop-place.text) owner c.index-records-place.is
    c.loop-place-test.true in
    rw (c.in_ok-add_section.ensures (whole plan [] owner.job).paths, c.turn_at-after.ensures) (next ∙ c.loop-place.invariant)

pub returns : goal.returns
returns c =
    no_section c.args.plan.now c.loop-place.before c.args.records.now c.loop-place.place (string_bytes c.loop-place.text) c.loop-place-test.false
    ∙ c.loop-place.invariant
