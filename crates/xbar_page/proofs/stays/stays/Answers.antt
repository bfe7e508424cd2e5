use Rattle.std.proofs.Common.{◌+◌, ◌∙◌}
use Rattle.{std.proofs.lemmas.List.take_rest, xbar_page.proofs.StaySteps.next_stays}
use Rattle.xbar_page.proofs.stays.stays.Goals as goal

pub loop-turn-preserved : goal.loop-turn-preserved
loop-turn-preserved c =
    rw (c.in_ok-add_stays_from.ensures, c.as_slice-now.ensures, take_rest c.args.sets.now (c.loop-turn.turn + 1))
    (next_stays c.args.sets.now c.loop-turn.turn c.loop-turn.before.now c.index-sets-turn.result c.loop-turn.stays.items c.index-sets-turn.is
    c.loop-turn-test.true ∙ c.loop-turn.invariant)
