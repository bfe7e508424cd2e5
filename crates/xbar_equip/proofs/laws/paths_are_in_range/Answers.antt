use Rattle.xbar_equip.proofs.{Lists.all_taken, Ranges.{is_path, paths_in_range}}
use Rattle.xbar_equip.proofs.laws.paths_are_in_range.Goals as goal

pub returns : goal.returns
returns c = paths_in_range c.args.paths.now (all_taken is_path c.args.paths.now c.loop-path.path-index c.loop-path-test.false c.loop-path.invariant)
