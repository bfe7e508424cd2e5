use Rattle.xbar_equip.{specs.Link.is_link, proofs.{Lists.all_taken, Ranges.links_in_range}}
use Rattle.xbar_equip.proofs.laws.links_are_in_range.Goals as goal

pub returns-clause-each : goal.returns-clause-each
returns-clause-each c = links_in_range c.args.links.now (all_taken is_link c.args.links.now c.loop-link.link-index c.loop-link-test.false c.loop-link.invariant)
