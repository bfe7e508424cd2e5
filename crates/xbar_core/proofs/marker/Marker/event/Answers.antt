use Rattle.xbar_core.proofs.MarkerSteps.{event_answered, event_idle}
use Rattle.xbar_core.proofs.marker.Marker.event.Goals as goal

pub returns-in-None : goal.returns-in-None
returns-in-None c = λ plan words before is answered. event_idle plan c.args.number words before c.args.self.now.work c.args.answer answered c.in-None.is

pub returns-in-Some : goal.returns-in-Some
returns-in-Some c =
    λ plan words before is answered. event_answered plan c.args.number words before c.args.self.now.work c.args.answer answered c.in-Some.answer c.args.step
    c.event_of.result c.in-Some.is is c.event_of.ensures
