use Rattle.xbar_plan.proofs.MemberPlaces.{member_place-fits}
use Rattle.xbar_plan.proofs.laws.member_places_are_of_members.Goals as goal

pub returns : goal.returns
returns c = member_place-fits
