use Rattle.xbar_plan.proofs.LawfulPlans.{one_member, stands_at-has}
use Rattle.xbar_plan.proofs.laws.one_member_stands_at_a_place.Goals as goal

pub returns : goal.returns
returns c = λ plan lawful group index group' index' member member' place here here' stands stands'.
    one_member plan lawful group index group' index' member member' place here here' (stands_at-has member place stands) (stands_at-has member' place stands')
