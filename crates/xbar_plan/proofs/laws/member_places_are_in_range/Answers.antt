use Rattle.xbar_plan.proofs.MemberPlaces.{member_place-numbers, member_place-place, member_place-other}
use Rattle.xbar_plan.proofs.laws.member_places_are_in_range.Goals as goal

pub returns-clause-numbers : goal.returns-clause-numbers
returns-clause-numbers c = member_place-numbers

pub returns-clause-place : goal.returns-clause-place
returns-clause-place c = member_place-place

pub returns-clause-other : goal.returns-clause-other
returns-clause-other c = member_place-other
