use Rattle.std.proofs.Common.{rules, ◌≡◌, ◌<◌, length, true, ◌∙◌, arith, length-set}
use Rattle.xbar_plan.{specs.Numbered.link_number, proofs.MarkedLinks.{marks-more, all-marked}}
use Rattle.xbar_plan.proofs.directory.faults.marked_links.Goals as goal

pub loop-link-init : goal.loop-link-init
loop-link-init c = record { size = c.in_ok-marks.ensures.size; marked = λ k in_range. c.in_ok-marks.ensures.none (link_number k) }

pub loop-link-preserved : goal.loop-link-preserved
loop-link-preserved c =
    let number : c.from.result ≡ link_number c.link-item.result = search rules in
    let range = c.link_number.ensures.range in
    let size = c.loop-link.invariant.size in
    let there : link_number c.link-item.result < length c.loop-link.marks.items = omega (arith, number, range, size) in
    rw number (record {
      size = length-set c.loop-link.marks.items (link_number c.link-item.result) true ∙ size;
      marked =
          marks-more c.loop-link.marks.items c.args.faults.now c.loop-link.link-index c.link-item.result c.loop-link-test.true c.link-item.is
          c.link_number.ensures.link there c.loop-link.invariant.marked;
    })

pub returns : goal.returns
returns c =
    all-marked c.loop-link.marks.items c.args.faults.now c.loop-link.link-index c.loop-link-test.false c.loop-link.invariant.size c.loop-link.invariant.marked
