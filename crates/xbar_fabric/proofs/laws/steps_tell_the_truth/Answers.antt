use Rattle.std.proofs.Common.{sym}
use Rattle.xbar_fabric.proofs.laws.steps_tell_the_truth.Goals as goal

pub returns-clause-refused : goal.returns-clause-refused
returns-clause-refused c before after conn holder step =
    c.events_tell_the_truth.ensures.refused before.plan step.office before.marker holder conn step.agrees.lawful (sym step.event_is)

pub returns-clause-preferred : goal.returns-clause-preferred
returns-clause-preferred c before after other step =
    c.events_tell_the_truth.ensures.preferred before.plan step.office before.marker other step.agrees.lawful (sym step.event_is)

pub returns-clause-least : goal.returns-clause-least
returns-clause-least c before after other step =
    c.events_tell_the_truth.ensures.least before.plan step.office before.marker other step.agrees.lawful (sym step.event_is)
