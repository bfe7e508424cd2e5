use Rattle.benches.proofs.lone_marker.begin.Goals as goal

pub returns : goal.returns
returns c = c.new.ensures.plan c.args.plan.now c.every_plan_is_lawful.ensures
