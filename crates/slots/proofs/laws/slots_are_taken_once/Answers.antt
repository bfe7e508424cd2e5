use Rattle.slots.proofs.TakenOnce.{taken_once}
use Rattle.slots.proofs.laws.slots_are_taken_once.Goals as goal

pub returns : goal.returns
returns c =
    λ w before between later r other slot law is first second. taken_once slot other later second before between r w.order
    (c.jobs_act_at_their_turns.ensures.legal tt w law) is first
